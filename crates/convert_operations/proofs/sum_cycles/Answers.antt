-- So much is added up, and the rest of the chain is left.
use Rattle.std.proofs.Common.{arith}
use Rattle.convert_operations.proofs.Sums.{sum-fits, sum-end, sum-here, sum-on}
use Rattle.convert_operations.proofs.sum_cycles.Goals as goal

pub cycles-total-requires : goal.cycles-total-requires
cycles-total-requires c = sum-here c.loop-operation.invariant c.in-Some.ensures.steps

pub overflow_add-total : goal.overflow_add-total
overflow_add-total c =
    record { fits = omega (arith, sum-fits (sum-on c.loop-operation.invariant c.in-Some.ensures.steps c.cycles-total.ensures.0), c.requires.1) }

pub loop-operation-preserved : goal.loop-operation-preserved
loop-operation-preserved c = sum-on c.loop-operation.invariant c.in-Some.ensures.steps c.cycles-total.ensures.0

pub returns : goal.returns
returns c = sum-end c.loop-operation.invariant c.in-None.ensures.steps.0
