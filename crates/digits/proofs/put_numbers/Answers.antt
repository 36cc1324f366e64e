-- The words are written one by one, each behind a space.
use Rattle.digits.specs.Spaced.{spaced}
use Rattle.digits.proofs.Items.{items-room, items-step, items-end}
use Rattle.digits.proofs.put_numbers.Goals as goal

pub put_number-p-requires : goal.put_number-p-requires
put_number-p-requires c = items-room spaced _ c.loop-i.invariant c.loop-i-test.true c.word_at.ensures.0

pub loop-i-preserved : goal.loop-i-preserved
loop-i-preserved c = items-step spaced _ c.loop-i.invariant c.loop-i-test.true c.word_at.ensures.0 c.put_number-p.ensures c.put_number-p.auto.text

pub returns : goal.returns
returns c = items-end spaced _ c.loop-i.invariant c.loop-i-test.false
