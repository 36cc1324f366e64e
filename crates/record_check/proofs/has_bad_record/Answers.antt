-- One pass over the copies: each is tested behind the one before it, and its chain is followed.
use Rattle.std.proofs.Common.{refl, arith}
use Rattle.base.specs.Copy.{copy_of}
use Rattle.record_check.proofs.Records.{begin, bad-copy, bad-chain, onward, all-passed}
use Rattle.record_check.proofs.has_bad_record.Goals as goal

pub loop-copy-init : goal.loop-copy-init
loop-copy-init c = begin _ _ _ refl

pub returns-then-is_bad : goal.returns-then-is_bad
returns-then-is_bad c =
    bad-copy _ _ _ c.loop-copy.invariant (omega arith) (λ i. copy_of (c.block.ensures.0 i) (c.low.ensures.0 i)) c.is_bad.ensures c.if-is_bad.true

pub returns-in-None : goal.returns-in-None
returns-in-None c =
    bad-chain _ _ _ c.loop-copy.invariant (omega arith) (λ i. copy_of (c.block.ensures.0 i) (c.low.ensures.0 i)) c.first_edge.ensures.0
    c.chain_end.ensures c.in-None.is

pub loop-copy-preserved : goal.loop-copy-preserved
loop-copy-preserved c =
    onward _ _ _ c.loop-copy.invariant (omega arith) (λ i. copy_of (c.block.ensures.0 i) (c.low.ensures.0 i)) c.first_edge.ensures.0
    c.chain_end.ensures c.is_bad.ensures c.if-is_bad.false c.in-Some.is

pub returns : goal.returns
returns c = all-passed _ _ _ c.loop-copy.invariant (omega (arith, c.args.records.formed.copies)) (omega arith)
