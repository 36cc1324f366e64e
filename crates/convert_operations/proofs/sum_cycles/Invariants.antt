-- So much is added up, and the rest of the chain is left.
use Rattle.chains.specs.Rest.{rest}
use Rattle.convert_operations.proofs.Sums.{Summing}
use Rattle.convert_operations.proofs.sum_cycles.Given as goal

abbrev pub invariant-loop-operation : goal.invariant-loop-operation
invariant-loop-operation l = Summing (rest l.operations) l.total (rest l.operation-iterator)
