-- An entry that is 0, or one that is tested against the copies, its block, and its low.
use Rattle.std.proofs.Common.{sym, ◌∙◌}
use Rattle.base.proofs.Orders.{inside_of}
use Rattle.entry_check.proofs.Parts.{zero-fits, no_copy, other_block, low-tells}
use Rattle.entry_check.proofs.entry_fits.Goals as goal

pub returns-then-copy-eq0 : goal.returns-then-copy-eq0
returns-then-copy-eq0 c = zero-fits _ _ _ _ c.if-copy-eq0.true

pub returns-then-is_outside : goal.returns-then-is_outside
returns-then-is_outside c = no_copy _ _ _ _ c.if-copy-eq0.false (sym c.is_outside.ensures ∙ c.if-is_outside.true)

pub block-requires : goal.block-requires
block-requires c = inside_of 1 _ _ (sym c.is_outside.ensures ∙ c.if-is_outside.false)

pub low-requires : goal.low-requires
low-requires c = inside_of 1 _ _ (sym c.is_outside.ensures ∙ c.if-is_outside.false)

pub returns-then-block-eq1 : goal.returns-then-block-eq1
returns-then-block-eq1 c =
    low-tells _ _ _ _ c.if-copy-eq0.false (sym c.is_outside.ensures ∙ c.if-is_outside.false) c.block.ensures.0 c.if-block-eq1.true c.low.ensures.0

pub returns-else-block-eq1 : goal.returns-else-block-eq1
returns-else-block-eq1 c =
    other_block _ _ _ _ c.if-copy-eq0.false (sym c.is_outside.ensures ∙ c.if-is_outside.false) c.block.ensures.0 c.if-block-eq1.false
