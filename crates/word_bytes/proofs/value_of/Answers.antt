-- `word_bytes::value_of` meets its contract.
use Rattle.std.proofs.Common.{sym, arith}
use Rattle.word_bytes.proofs.Modes.{value-within, value_none}
use Rattle.word_bytes.proofs.value_of.Goals as goal

pub returns-then-mode-lt-WORD_LIMIT : goal.returns-then-mode-lt-WORD_LIMIT
returns-then-mode-lt-WORD_LIMIT c = (sym (value-within c.args.mode c.if-mode-lt-WORD_LIMIT.true), c.if-mode-lt-WORD_LIMIT.true)

pub returns : goal.returns
returns c = (sym (value_none c.args.mode c.if-mode-lt-WORD_LIMIT.false), omega arith)
