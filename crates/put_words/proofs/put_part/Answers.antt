-- The part is put word by word.
use Rattle.put_words.proofs.Put.{putting, putting-on}
use Rattle.put_words.proofs.put_part.Goals as goal

pub loop-i-init : goal.loop-i-init
loop-i-init c = putting c.requires

pub loop-i-preserved : goal.loop-i-preserved
loop-i-preserved c =
    let loop = c.loop-i in
    let loop-test = c.loop-i-test in
    putting-on loop.invariant loop-test.true c.word_at.ensures.0 c.put_one.ensures
