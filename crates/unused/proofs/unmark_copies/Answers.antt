-- Each turn takes the mark of one copy's block.
use Rattle.std.proofs.Common.{arith}
use Rattle.unused.proofs.Unmarking.{begin, onward, finish}
use Rattle.unused.proofs.unmark_copies.Goals as goal

pub loop-copy-init : goal.loop-copy-init
loop-copy-init c = begin _ _ c.requires.marks_len

pub loop-copy-preserved : goal.loop-copy-preserved
loop-copy-preserved c =
    let l = c.loop-copy in
    let b = c.requires.blocks.inside l.copy l.invariant.least (omega (arith, c.loop-copy-test.true)) in
    onward _ _ _ l.invariant (omega (arith, c.loop-copy-test.true)) (omega (arith, b, c.field-block.ensures.0)) (omega (arith, b, c.field-block.ensures.0))

pub returns : goal.returns
returns c = finish _ _ c.loop-copy.invariant (omega (arith, c.loop-copy-test.false))
