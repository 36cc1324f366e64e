-- There is a next part, or none; the parts so far were written. The measure is the parts left.
use Rattle.std.proofs.Common.{◌≤◌, ◌+◌, ◌-◌, length}
use Rattle.unused_lines.specs.Room.{unused_room}
use Rattle.catalogue.specs.Parts.{parts_before}
use Rattle.stream.specs.Ending.{Closable}
use Rattle.reporting.proofs.Parts.{PartsPrinted}
use Rattle.reporting.proofs.print_parts.Given as goal

abbrev pub invariant-loop-closing : goal.invariant-loop-closing
invariant-loop-closing g l = record {
  room : unused_room ≤ length l.text;
  closable : Closable l.closing l.marks;
  so_far : PartsPrinted (g.W.Write.contents l.initial.writer) l.fn.first l.marks (g.W.Write.contents l.writer) l.closing;
}

abbrev pub decreases-loop-closing : goal.decreases-loop-closing
decreases-loop-closing g l = l.closing.tally.place + 2 - parts_before l.closing.tally.place l.closing.next
