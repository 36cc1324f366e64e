-- A number outside two limits, by two tests.
use borrow.Author.Tests.{lt-ltb, le-ltb}
use Rattle.base.specs.Checks.{outside}
use Rattle.words.proofs.is_outside.Goals as goal

pub returns-then-number-least : goal.returns-then-number-least
unfolding outside
returns-then-number-least c = simp (lt-ltb _ _ c.if-number-least.true)

pub returns-else-number-least : goal.returns-else-number-least
unfolding outside
returns-else-number-least c = simp (le-ltb _ _ c.if-number-least.false)
