-- All chains are followed, number by number, with one row of marks.
use Rattle.std.proofs.Common.{List, ℕ}
use Rattle.formats.specs.Words.{field, next_from}
use Rattle.chain_check.proofs.Following.{Following}
use Rattle.chain_check.proofs.unsound_chains.Given as goal

abbrev pub first : List ℕ → ℕ → ℕ → ℕ → ℕ
first s at k v = field s at 2 v k

abbrev pub invariant-loop-number : goal.invariant-loop-number
invariant-loop-number l = Following (first l.words l.table l.word) (next_from l.words l.base) l.records l.numbers l.initial.marks l.marks l.left l.number
