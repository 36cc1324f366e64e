-- A word that was being read is written; outside a word there is nothing to write.
use Rattle.std.proofs.Common.{sym, ap}
use Rattle.base.specs.Lists.{each}
use Rattle.digits.proofs.Due.{wrote_as, wrote_none}
use Rattle.formats.specs.File.{bytes_of}
use Rattle.word_bytes.proofs.Modes.{pending-bytes, pending-none}
use Rattle.word_bytes.proofs.flush.Goals as goal

pub returns-then-mode-lt-WORD_LIMIT : goal.returns-then-mode-lt-WORD_LIMIT
returns-then-mode-lt-WORD_LIMIT c = wrote_as c.put_word.ensures (sym (pending-bytes c.args.mode c.if-mode-lt-WORD_LIMIT.true))

pub returns : goal.returns
unfolding bytes_of each
returns c =
    let a = c.args in
    wrote_as (wrote_none a.out.now a.at) (ap bytes_of (sym (pending-none a.mode c.if-mode-lt-WORD_LIMIT.false)))
