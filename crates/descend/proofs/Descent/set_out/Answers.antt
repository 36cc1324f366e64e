-- The descent from the start copies: the invariant behind each budget, and what it says at the returns.
use Rattle.std.proofs.Common.{refl, arith}
use Rattle.std.proofs.lemmas.Result.{err_from_is_err_and}
use Rattle.descend.proofs.Copies.{low-is}
use Rattle.descend.proofs.Outset.{outset, start-fits, outset-none, outset-stops, outset-on, outset-end, outset-same, not-few}
use Rattle.descend.proofs.Descent.set_out.Goals as goal
use Rattle.descend.proofs.Descent.set_out.Goals.{in-Some+in_ok-visit, in_default}

pub loop-budget-init : goal.loop-budget-init
loop-budget-init c =
    let R = c.requires in
    outset _ _ (record { claims = R.claimed.0; largest = R.claimed.1; opens = R.claimed.2; clear = R.clear.0 }) R.room R.clear.1

pub low-requires : goal.low-requires
low-requires c =
    let f = start-fits c.loop-budget.invariant (omega (arith, c.loop-budget-test.true)) refl in
    (omega arith, f.0, f.1)

pub visit-requires-clause-place : goal.visit-requires-clause-place
visit-requires-clause-place c =
    let f = start-fits c.loop-budget.invariant (omega (arith, c.loop-budget-test.true)) refl in
    (omega arith, f.0, omega (arith, f.1, (low-is _ _ _ c.in-Some.ensures).below))

pub visit-requires-clause-completes : goal.visit-requires-clause-completes
visit-requires-clause-completes c = (low-is _ _ _ c.in-Some.ensures).passes

pub returns-in_err-visit-clause-edges : goal.returns-in_err-visit-clause-edges
returns-in_err-visit-clause-edges c =
    let p = err_from_is_err_and c.from_residual.result c.from_residual.ensures.1 in
    let y = c.in_err-visit.ensures in
    rw p.1
    (outset-stops c.loop-budget.invariant (omega (arith, c.loop-budget-test.true)) refl c.in-Some.ensures y.graph y.layout y.source y.counted (not-few y.ok.1))

pub loop-budget-preserved : goal.loop-budget-preserved
loop-budget-preserved c =
    let O = c.loop-budget.invariant in
    elim c.match-low.branch [
      | in-Some+in_ok-visit w ↦
          let y = w.in_ok-visit.ensures in
          outset-same w.self-is
          (outset-on O c.loop-budget-test.true refl w.in-Some.ensures y.graph y.layout y.source y.counted y.lows y.same_marks (y.ok.0 refl) y.grown y.met)
      | in_default w ↦
          outset-same w.self-is
          (outset-none O c.loop-budget-test.true refl w.in_default.ensures)
    ]

pub returns-clause-edges : goal.returns-clause-edges
returns-clause-edges c =
    let O = c.loop-budget.invariant in
    ((outset-end O c.loop-budget-test.false).0, omega (arith, O.goes.few, (outset-end O c.loop-budget-test.false).0))

pub returns-clause-marks : goal.returns-clause-marks
returns-clause-marks c = (outset-end c.loop-budget.invariant c.loop-budget-test.false).1
