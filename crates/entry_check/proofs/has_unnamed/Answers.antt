-- A search for a start copy that no entry names.
use Rattle.std.proofs.Common.{refl, sym, ap, ◌∙◌, not, arith}
use Rattle.base.proofs.Search.{begin, found, onward, none}
use Rattle.entry_check.proofs.has_unnamed.Goals as goal

pub loop-copy-init : goal.loop-copy-init
loop-copy-init c = begin refl refl

pub returns-then-not-is_named : goal.returns-then-not-is_named
returns-then-not-is_named c = found c.loop-copy.invariant (omega arith) (ap not (sym c.is_named.ensures ∙ c.if-not-is_named.true))

pub loop-copy-preserved : goal.loop-copy-preserved
loop-copy-preserved c = onward c.loop-copy.invariant (omega arith) (ap not (sym c.is_named.ensures ∙ c.if-not-is_named.false))

pub returns : goal.returns
returns c = none c.loop-copy.invariant (omega arith)
