-- The budgets are put one by one, each lowered.
use Rattle.std.proofs.Common.{refl, sym, ap, ◌∙◌, [], ◌∷◌, ℕ, arith, zero-add}
use Rattle.formats.proofs.Handler.{lowered-count}
use Rattle.put_words.specs.Put.{put_words}
use Rattle.put_words.proofs.Put.{putting, putting-length, putting-on, put_all, one}
use Rattle.lowered.proofs.Fronts.{lowered-at}
use Rattle.lowered.proofs.put_less.Goals as goal

pub loop-place-init : goal.loop-place-init
loop-place-init c = putting (omega (arith, c.requires, lowered-count c.args.handler c.args.budgets.now))

pub loop-place-preserved : goal.loop-place-preserved
loop-place-preserved c =
    let a = c.args in
    let loop = c.loop-place in
    let l = c.loop-place-test.true in
    putting-on loop.invariant (omega (arith, l, lowered-count a.handler a.budgets.now))
    (lowered-at a.handler a.budgets.now loop.place l refl c.saturating_sub.ensures)
    (one loop.row loop.place _ (omega (arith, l, c.requires, putting-length loop.invariant))
    ∙ ap (λ (k : ℕ). put_words loop.row k (c.saturating_sub.result ∷ [])) (sym (zero-add loop.place)))

pub returns : goal.returns
returns c = put_all c.loop-place.invariant (omega (arith, c.loop-place-test.false, lowered-count c.args.handler c.args.budgets.now))
