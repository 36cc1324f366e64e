-- The line that tells a fault, or the bytes where there is none.
use Rattle.std.proofs.Common.{arith}
use Rattle.text_form.specs.Reading.{read_words}
use Rattle.reading.proofs.Texts.{done-bytes, done-said, told-bytes, told-said}
use Rattle.reading.proofs.finish.Goals as goal

pub returns-then-t-ne0 : goal.returns-then-t-ne0
unfolding read_words
returns-then-t-ne0 c =
    let say = c.say-n.ensures in
    record { size_in_bounds = (omega arith, say.1); leaves = λ old xs H. (told-bytes xs (c.end_text-t.ensures.turns old _ H) c.if-t-ne0.true, told-said xs (c.end_text-t.ensures.turns old _ H) c.if-t-ne0.true say.0) }

pub returns : goal.returns
unfolding read_words
returns c = record { size_in_bounds = (omega (arith, c.end_text-t.ensures.able.inside, c.end_text-t.ensures.able.all), omega arith); leaves = λ old xs H. (done-bytes xs (c.end_text-t.ensures.turns old _ H) c.if-t-ne0.false, done-said xs (c.end_text-t.ensures.turns old _ H) c.if-t-ne0.false _) }
