-- The bytes before the index came, and what was handed back for them was written.
use Rattle.std.proofs.Common.{◌≤◌, length, take}
use Rattle.sheet_lines.specs.Room.{sheet_room}
use Rattle.framing.specs.Feeding.{Able}
use Rattle.reporting.specs.Taken.{Takes}
use Rattle.reporting.specs.Printed.{Prints}
use Rattle.reporting.proofs.feed_piece.Given as goal

abbrev pub invariant-loop-byte : goal.invariant-loop-byte
invariant-loop-byte g l = record {
  room : sheet_room ≤ length l.text;
  able : Able l.progress l.row l.marks;
  takes : Takes (take l.byte-index l.bytes) l.fn.first l.initial.row l.initial.marks l.progress l.row l.marks;
  prints : Prints (take l.byte-index l.bytes) (g.W.Write.contents l.initial.writer) l.fn.first l.initial.row l.initial.marks (g.W.Write.contents l.writer) l.progress l.row l.marks;
}
