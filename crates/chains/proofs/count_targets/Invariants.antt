-- A chain is counted edge by edge; what is passed and what is left make the whole length.
use Rattle.chains.specs.Rest.{rest}
use Rattle.chains.proofs.Counting.{Given}
use Rattle.chains.proofs.count_targets.Given as goal

abbrev pub invariant-loop-target : goal.invariant-loop-target
invariant-loop-target l = Given l.chain.words.now l.chain.base l.chain.edges l.chain.left l.chain.edge l.count (rest l._target-iterator)
