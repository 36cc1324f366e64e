-- The k-th budget, lowered.
use Rattle.std.proofs.Common.{sym, ap, ◌∙◌, ℕ, ◌-◌, arith}
use Rattle.formats.specs.Versions.{budgets_in}
use Rattle.formats.proofs.Budgets.{budgets-there}
use Rattle.formats.proofs.Handler.{lowered-nth}
use Rattle.lowered.proofs.lowered_budget.Goals as goal

pub returns : goal.returns
returns c =
    let k = c.args.index in
    let p = c.requires.le_index in
    let b = c.budget.ensures in (
      c.saturating_sub.ensures ∙ ap (λ (x : ℕ). x - c.args.handler) b.0
          ∙ sym (lowered-nth c.args.handler (budgets_in c.args.words.now) k p.0 (omega (arith, p.1, budgets-there _ c.requires.least_words_in_bounds.1))),
      omega (arith, c.saturating_sub.ensures, b.1),
    )
