-- No more was read than there is room for.
use Rattle.std.proofs.Common.{◌≤◌, length}
use Rattle.corpus.proofs.read_full.Given as goal

abbrev pub invariant-loop : goal.invariant-loop
invariant-loop g l = l.count ≤ length l.row
