-- The words are written one by one.
use Rattle.formats.specs.File.{word_bytes, bytes_of}
use Rattle.digits.proofs.Items.{items-start, items-room, items-step, items-end}
use Rattle.file_bytes.proofs.put_words.Goals as goal

pub loop-i-init : goal.loop-i-init
unfolding bytes_of
loop-i-init c = items-start word_bytes _ c.requires

pub put_word-place-requires : goal.put_word-place-requires
put_word-place-requires c = (c.word_at.ensures.1, items-room word_bytes _ c.loop-i.invariant c.loop-i-test.true c.word_at.ensures.0)

pub loop-i-preserved : goal.loop-i-preserved
loop-i-preserved c = items-step word_bytes _ c.loop-i.invariant c.loop-i-test.true c.word_at.ensures.0 c.put_word-place.ensures c.put_word-place.auto.out

pub returns : goal.returns
unfolding bytes_of
returns c = items-end word_bytes _ c.loop-i.invariant c.loop-i-test.false
