-- The bytes are read one by one; the measure is the bytes left.
use Rattle.std.proofs.Common.{◌∙◌, arith}
use Rattle.reading.proofs.Texts.{feeds-next, feeds-all}
use Rattle.reading.proofs.feed.Goals as goal

pub loop-i-preserved : goal.loop-i-preserved
loop-i-preserved c = (
  omega (arith, c.loop-i-test.true),
  c.take_byte-t.auto.out ∙ c.loop-i.invariant.1,
  c.take_byte-t.ensures.able,
  feeds-next c.args.text.now c.loop-i.i c.loop-i-test.true c.loop-i.invariant.3 c.take_byte-t.ensures.turns,
)

pub returns : goal.returns
returns c = record { able = c.loop-i.invariant.2; feeds = feeds-all c.args.text.now c.loop-i.i c.loop-i-test.false c.loop-i.invariant.3 }
