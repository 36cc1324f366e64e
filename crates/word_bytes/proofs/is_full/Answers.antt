-- Within a word there is room; outside by the size.
use Rattle.word_bytes.proofs.Modes.{full-within, full-outside}
use Rattle.word_bytes.proofs.is_full.Goals as goal

pub returns-then-mode-lt-WORD_LIMIT : goal.returns-then-mode-lt-WORD_LIMIT
returns-then-mode-lt-WORD_LIMIT c = let a = c.args in full-within a.size a.mode c.if-mode-lt-WORD_LIMIT.true

pub returns : goal.returns
returns c = let a = c.args in full-outside a.size a.mode c.if-mode-lt-WORD_LIMIT.false
