-- The cycle of a copy and its chain: the chain turn by turn, and the copy that is marked and hands on to its chain.
use Rattle.std.proofs.Common.{◌<◌, ◌+◌, ℕ, ap, sym, refl, subst, arith, length, get_or, List}
use Rattle.std.proofs.lemmas.Result.{on_ok_weaker}
use Rattle.descend.specs.declared.Descent.{Descent}
use Rattle.descend.specs.Marks.{FromCopy}
use Rattle.descend.specs.Descents.{graph_of}
use Rattle.descend.proofs.Copies.{low-is}
use Rattle.descend.proofs.Marks.{read-marked}
use Rattle.descend.proofs.Visit.{visit-of, visit-room, visit-count, exit-count, visit-source, visit-covers, visit-falls, chain-source, chain-grown, chain-met, exit-grown, visit-met, on_ok_both}
use Rattle.descend.proofs.Trail.{Trail, trail-start, target-fits, trail-none, trail-source, trail-on}
use Rattle.descend.proofs.Descent.+descent.Goals as goal
use Rattle.descend.proofs.Descent.+descent.Goals.{follow-in-Some+in_ok-visit, follow-in_default}

-- THE CHAIN
pub follow-loop-target-init : goal.follow-loop-target-init
follow-loop-target-init t c = let R = c.requires in trail-start _ _ _ R.counted R.few R.place.2

pub follow-low-requires : goal.follow-low-requires
follow-low-requires t c =
    let s = c.successors-target-items.ensures in
    let q = ap (λ (ts : List ℕ). get_or ts c.loop-target.target-index 0) s in
    let f = target-fits c.loop-target.invariant (omega (arith, c.loop-target-test.true, ap length s)) q in
    (omega (arith, f.0), f.1, f.2)

pub follow-visit-requires : goal.follow-visit-requires
follow-visit-requires t c =
    let s = c.successors-target-items.ensures in
    let q = ap (λ (ts : List ℕ). get_or ts c.loop-target.target-index 0) s in
    let T = c.loop-target.invariant in
    let f = target-fits T (omega (arith, c.loop-target-test.true, ap length s)) q in
    let a = low-is _ _ _ c.in-Some.ensures in
    (omega (arith, f.0, a.below), (T.goes.counted, (T.goes.few, ((omega (arith, f.0), f.1, omega (arith, f.2, a.below)), a.passes))))

pub follow-returns-in_err-visit-clause-source : goal.follow-returns-in_err-visit-clause-source
follow-returns-in_err-visit-clause-source t c =
    let s = c.successors-target-items.ensures in
    let q = ap (λ (ts : List ℕ). get_or ts c.loop-target.target-index 0) s in
    trail-source c.loop-target.invariant (omega (arith, c.loop-target-test.true, ap length s)) q c.in-Some.ensures _ c.visit.ensures.source

pub follow-loop-target-preserved : goal.follow-loop-target-preserved
follow-loop-target-preserved t c =
    let s = c.successors-target-items.ensures in
    let T = c.loop-target.invariant in
    let i = c.loop-target.target-index in
    let l : i < length ((graph_of c.args.self.now).next c.args.block) = omega (arith, c.loop-target-test.true, ap length s) in
    let q = ap (λ (ts : List ℕ). get_or ts i 0) s in
    let P : Descent → Type 0 = λ d. Trail c.args.self.now d c.args.block c.args.cycles (i + 1) in
    elim c.match-low.branch [
      | follow-in-Some+in_ok-visit w ↦
          let y = w.in_ok-visit.ensures in
          subst P (sym w.self-is)
          (trail-on T l q w.in-Some.ensures y.graph y.layout y.lows y.same_marks y.counted (y.ok.0 refl) y.source y.grown y.met)
      | follow-in_default w ↦ subst P (sym w.self-is) (trail-none T l q w.in_default.ensures)
    ]

-- THE COPY
pub visit-returns-then-self-place-ne0-clause-source : goal.visit-returns-then-self-place-ne0-clause-source
unfolding FromCopy
visit-returns-then-self-place-ne0-clause-source t c = λ S C h k. k

pub visit-returns-then-self-place-ne0-clause-met : goal.visit-returns-then-self-place-ne0-clause-met
visit-returns-then-self-place-ne0-clause-met t c = read-marked _ _ _ _ c.cell-place.ensures.value c.if-self-place-ne0.true

pub visit-returns-then-block-eq2-clause-counted : goal.visit-returns-then-block-eq2-clause-counted
visit-returns-then-block-eq2-clause-counted t c =
    let R = c.requires in
    let V = visit-of R.counted R.place R.completes c.cell-place.ensures.value in
    record { room = visit-room V; count = exit-count V c.if-self-place-ne0.false c.if-block-eq2.true }

pub visit-returns-then-block-eq2-clause-source : goal.visit-returns-then-block-eq2-clause-source
visit-returns-then-block-eq2-clause-source t c =
    let R = c.requires in
    visit-source (visit-of R.counted R.place R.completes c.cell-place.ensures.value)

pub visit-returns-then-block-eq2-clause-grown : goal.visit-returns-then-block-eq2-clause-grown
visit-returns-then-block-eq2-clause-grown t c =
    let R = c.requires in
    exit-grown (visit-of R.counted R.place R.completes c.cell-place.ensures.value) c.if-block-eq2.true

pub visit-returns-then-block-eq2-clause-met : goal.visit-returns-then-block-eq2-clause-met
visit-returns-then-block-eq2-clause-met t c =
    let R = c.requires in
    visit-met (visit-of R.counted R.place R.completes c.cell-place.ensures.value)

pub visit-returns-then-self-gt-MOST_BOUNDED_EDGES-clause-counted :
    goal.visit-returns-then-self-gt-MOST_BOUNDED_EDGES-clause-counted
visit-returns-then-self-gt-MOST_BOUNDED_EDGES-clause-counted t c =
    let R = c.requires in
    let V = visit-of R.counted R.place R.completes c.cell-place.ensures.value in
    record { room = visit-room V; count = visit-count V c.if-self-place-ne0.false (ap length c.successors.ensures) }

pub visit-returns-then-self-gt-MOST_BOUNDED_EDGES-clause-source :
    goal.visit-returns-then-self-gt-MOST_BOUNDED_EDGES-clause-source
visit-returns-then-self-gt-MOST_BOUNDED_EDGES-clause-source t c =
    let R = c.requires in
    visit-source (visit-of R.counted R.place R.completes c.cell-place.ensures.value)

pub visit-overflow_sub-low : goal.visit-overflow_sub-low
visit-overflow_sub-low t c =
    let R = c.requires in
    omega (arith, c.cost.ensures.value, visit-covers (visit-of R.counted R.place R.completes c.cell-place.ensures.value))

pub visit-follow-requires : goal.visit-follow-requires
visit-follow-requires t c =
    let R = c.requires in
    let V = visit-of R.counted R.place R.completes c.cell-place.ensures.value in
    let n = visit-count V c.if-self-place-ne0.false (ap length c.successors.ensures) in (
      omega (arith, visit-falls V c.cost.ensures.value c.if-block-eq2.false),
      (record { room = visit-room V; count = n }, (omega (arith, c.if-self-gt-MOST_BOUNDED_EDGES.false), omega (arith, R.place))),
    )

pub visit-returns-clause-source : goal.visit-returns-clause-source
visit-returns-clause-source t c =
    let R = c.requires in
    chain-source (visit-of R.counted R.place R.completes c.cell-place.ensures.value) c.cost.ensures.value _ c.follow.ensures.source

pub visit-returns-clause-grown : goal.visit-returns-clause-grown
visit-returns-clause-grown t c =
    let R = c.requires in
    on_ok_both _ (chain-grown (visit-of R.counted R.place R.completes c.cell-place.ensures.value) c.cost.ensures.value _)
    c.follow.ensures.grown c.follow.ensures.met

pub visit-returns-clause-met : goal.visit-returns-clause-met
visit-returns-clause-met t c =
    let R = c.requires in
    on_ok_weaker _ (chain-met (visit-of R.counted R.place R.completes c.cell-place.ensures.value) c.cost.ensures.value _) c.follow.ensures.grown
