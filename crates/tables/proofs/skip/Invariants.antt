-- The cells that were passed are clear.
use Rattle.std.proofs.Common.{◌+◌, ◌*◌, ◌≤◌}
use Rattle.tables.specs.Scan.{ClearFrom}
use Rattle.tables.proofs.skip.Given as goal

abbrev pub invariant-loop-k : goal.invariant-loop-k
invariant-loop-k l = ClearFrom l.marks l.from (l.from + 8 * l.k)
