-- the bytes before the index came behind the input, and the count fits the row
use Rattle.std.proofs.Common.{◌++◌, ◌≤◌, List, ℕ, length, take}
use Rattle.kept.specs.Held.{Held, holding, held_as}
use Rattle.kept.proofs.keep.Given as goal

abbrev pub invariant-loop-b : goal.invariant-loop-b
invariant-loop-b l = record {
  room : l.count ≤ length l.row;
  kept : (xs : List ℕ) → Held xs l.initial.row (held_as l.fn.s) → Held (xs ++ take l.b-index l.bytes) l.row (holding l.count l.odd);
}
