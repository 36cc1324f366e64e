-- `byte_reading::take_byte` meets its contract: nothing changes after a fault.
use Rattle.text_form.specs.Reading.{text_byte, step}
use Rattle.text_form.proofs.Cases.{with_none, with-fault}
use Rattle.word_reading.proofs.Turns.{holds_as, held_none, held-fault}
use Rattle.byte_reading.proofs.take_byte.Goals as goal

pub returns-then-s-eq0 : goal.returns-then-s-eq0
unfolding step
returns-then-s-eq0 c = record { able = c.text_byte.ensures.able; turns = λ old r H. holds_as (c.text_byte.ensures.turns old r H) (with_none r (text_byte r c.args.b) (held_none H c.if-s-eq0.true)) }

pub returns : goal.returns
unfolding step
returns c = record { able = c.requires; turns = λ old r H. holds_as H (with-fault r (text_byte r c.args.b) (held-fault H c.if-s-eq0.false)) }
