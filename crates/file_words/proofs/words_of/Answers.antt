-- The words are written one by one; the row is the words so far, then what it held.
use Rattle.std.proofs.Common.{refl, arith}
use Rattle.file_words.proofs.Filled.{filled_none, filled_more, filled-all}
use Rattle.file_words.proofs.words_of.Goals as goal

pub loop-i-init : goal.loop-i-init
loop-i-init c = filled_none c.args.bytes.now c.args.words.now

pub loop-i-preserved : goal.loop-i-preserved
loop-i-preserved c =
    filled_more c.args.bytes.now c.loop-i.invariant (omega (arith, c.requires, c.loop-i-test.true)) c.joined.ensures

pub returns-clause-words_after : goal.returns-clause-words_after
returns-clause-words_after c = filled-all c.args.bytes.now c.loop-i.invariant (omega (arith, c.loop-i-test.false, c.loop-i.auto.i-end)) refl
