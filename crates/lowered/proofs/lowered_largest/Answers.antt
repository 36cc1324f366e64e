-- The last budget, lowered, is the last of the lowered ones.
use Rattle.std.proofs.Common.{sym, ap, ◌∙◌, ℕ, ◌-◌, arith}
use Rattle.formats.specs.Versions.{budgets_in}
use Rattle.formats.proofs.Handler.{lowered-last}
use Rattle.lowered.proofs.lowered_largest.Goals as goal

pub returns : goal.returns
returns c =
    let a = c.args in
    let b = c.largest.ensures in
    (c.saturating_sub.ensures ∙ ap (λ (x : ℕ). x - a.handler) b.0 ∙ sym (lowered-last a.handler (budgets_in a.words.now)), omega (arith, c.saturating_sub.ensures, b.1))
