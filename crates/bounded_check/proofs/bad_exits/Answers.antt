-- The copy behind the start copies: its block, its low, its chain; then the block of the copy behind it.
use Rattle.std.proofs.Common.{◌≡◌, sym, ◌∙◌, ◌+◌, arith}
use Rattle.bounded_check.proofs.Exit.{starts-alone, other_block, exit-low, is-chain, no-chain, exit-chain, one-exit, second-tells}
use Rattle.bounded_check.proofs.bad_exits.Goals as goal

pub returns-then-starts-records : goal.returns-then-starts-records
returns-then-starts-records c = starts-alone _ _ _ c.requires.kept c.requires.starts.0 c.requires.starts.1 c.if-starts-records.true

pub returns-then-block-ne-EXIT_BLOCK : goal.returns-then-block-ne-EXIT_BLOCK
returns-then-block-ne-EXIT_BLOCK c =
    other_block _ _ _ c.requires.kept c.requires.starts.0 c.requires.starts.1 c.if-starts-records.false
    (λ e. c.if-block-ne-EXIT_BLOCK.true (c.block.ensures.0 ∙ e))

pub returns-then-low-ne0 : goal.returns-then-low-ne0
returns-then-low-ne0 c =
    exit-low _ _ _ c.requires.kept c.requires.starts.0 c.requires.starts.1 c.if-starts-records.false (sym c.block.ensures.0 ∙ c.if-block-ne-EXIT_BLOCK.false)
    (λ e. c.if-low-ne0.true (c.low.ensures.0 ∙ e))

pub returns-then-has_chain : goal.returns-then-has_chain
returns-then-has_chain c =
    exit-chain _ _ _ c.requires.kept c.requires.starts.0 c.requires.starts.1 c.if-starts-records.false (sym c.block.ensures.0 ∙ c.if-block-ne-EXIT_BLOCK.false)
    (sym c.low.ensures.0 ∙ c.if-low-ne0.false) (is-chain _ (sym c.has_chain.ensures ∙ c.if-has_chain.true))

pub returns-then-exit-records : goal.returns-then-exit-records
returns-then-exit-records c =
    one-exit _ _ _ c.requires.kept c.requires.starts.0 c.requires.starts.1 c.if-starts-records.false (sym c.block.ensures.0 ∙ c.if-block-ne-EXIT_BLOCK.false)
    (sym c.low.ensures.0 ∙ c.if-low-ne0.false) (no-chain _ (sym c.has_chain.ensures ∙ c.if-has_chain.false)) (λ l _. omega (arith, c.if-exit-records.true))

pub returns : goal.returns
returns c =
    let z : c.args.starts + 1 + 1 ≡ c.args.starts + 2 = omega arith in
    second-tells _ _ _ c.requires.kept c.requires.starts.0 c.requires.starts.1 c.if-starts-records.false (sym c.block.ensures.0 ∙ c.if-block-ne-EXIT_BLOCK.false)
    (sym c.low.ensures.0 ∙ c.if-low-ne0.false) (no-chain _ (sym c.has_chain.ensures ∙ c.if-has_chain.false))
    (omega (arith, c.if-exit-records.false, c.requires.starts.1)) (rw z at c.block-2.ensures.0)
