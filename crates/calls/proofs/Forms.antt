-- DEMAND 3 for walks that are held in another form: where the form is faithful, its calls keep the demand as those by value do.
-- Rests on theory Runs, Demand.
use mathlib.Core.Path.{◌≡◌, sym, ap, ◌∙◌}
use mathlib.Core.List.{List, map}
use Prim.Native.Nat.{ℕ, ◌+◌}
use native.Mathlib.Omega.{arith}
use Rattle.theory.specs.Machines.{zeros}
use Rattle.theory.specs.Walks.{Walk, starting}
use Rattle.theory.proofs.Runs.{SameStep, answers-as, final-as, cycles-as, unchanged-form}
use Rattle.calls.specs.SheetGraph.{graph}
use Rattle.calls.specs.Moves.{Budgeted, starting_walk, Move, guarded_reply, bounded_move}
use Rattle.calls.specs.Starts.{Outset, bounded_start}
use Rattle.calls.specs.Construction.{built_words}
use Rattle.calls.specs.Demand.{Calls, start_reply, by_value, bounded_block, Demand3, KeepsDemand3, KeepsFromStart}
use Rattle.calls.proofs.Demand.{keeps-demand3, keeps-from-start}

-- A FAITHFUL FORM: the starting walk is the starting walk, and a start or a move sets or moves the walk that the form stands for
pub record Faithful {S : Type 0} (x : Calls S) : Type 0 where
  pub start : x.walk x.start ≡ starting_walk
  pub guarded-start : (w : List ℕ) (h : ℕ) (s : S) (i : Outset) → SameStep x.walk (x.guarded-start w h s i) (start_reply w h (x.walk s) i)
  pub bounded-start : (t : List ℕ) (s : S) (k : ℕ) → SameStep x.walk (x.bounded-start t s k) (bounded_start t (x.walk s) k)
  pub guarded : (w : List ℕ) (h : ℕ) (s : S) (m : Move) → SameStep x.walk (x.guarded w h s m) (guarded_reply w h (x.walk s) m)
  pub bounded : (t : List ℕ) (s : S) (k : ℕ) → SameStep x.walk (x.bounded t s k) (bounded_move t (x.walk s) k)

module _ {S : Type 0} (x : Calls S) (F : Faithful x) where
  -- from any two walks
  held_keeps : (w : List ℕ) (h : ℕ) (t : List ℕ) (n : ℕ) (z : Walk) (u v : S) (ms : List Move)
      → Demand3 by_value w h t n z (x.walk u) (x.walk v) ms → Demand3 x w h t n z u v ms
  held_keeps w h t n z u v ms D =
      let ks = map (λ (m : Move). m.choice) ms in
      let ga = answers-as x.walk (x.guarded w h) (guarded_reply w h) (F.guarded w h) ms u in
      let gf = final-as x.walk (x.guarded w h) (guarded_reply w h) (F.guarded w h) ms u in
      let ba = answers-as x.walk (x.bounded t) (bounded_move t) (F.bounded t) ks v in
      let bf = final-as x.walk (x.bounded t) (bounded_move t) (F.bounded t) ks v in
      let count = ap (λ (s : Budgeted). s.walk.count) bf in
      let end = ap (λ (s : Budgeted). s.walk.end) bf in
      let runs = unchanged-form x.walk (x.bounded t) (bounded_move t) (F.bounded t) (λ s. bounded_block t s.walk) (λ s. s.walk.end) v in
      let spent = cycles-as x.walk (x.bounded t) (bounded_move t) (F.bounded t) (graph w).cost (λ s. bounded_block t s.walk)
      (λ s. s.walk.end) ks v in
      record {
        monitor-acts = D.monitor-acts;
        guarded-answers = ga ∙ D.guarded-answers;
        bounded-answers = ba ∙ D.bounded-answers;
        guarded-block = ap (λ (s : Budgeted). s.walk.place) gf ∙ D.guarded-block;
        bounded-block = ap (λ (s : Budgeted). bounded_block t s.walk) bf ∙ D.bounded-block;
        guarded-end = ap (λ (s : Budgeted). s.walk.end) gf ∙ D.guarded-end;
        bounded-end = end ∙ D.bounded-end;
        guarded-count = ap (λ (s : Budgeted). s.walk.count) gf ∙ D.guarded-count;
        guarded-most = omega (arith, D.guarded-most, ap (λ (s : Budgeted). s.walk.count) gf);
        bounded-count = count ∙ D.bounded-count ∙ sym (ap zeros ba);
        bounded-going = λ e. omega (arith, count, D.bounded-going (sym end ∙ e));
        bounded-ended = omega (arith, count, D.bounded-ended);
        ends-within = λ l e. D.ends-within (omega (arith, ap zeros ba)) (sym end ∙ e);
        monitor-onward = D.monitor-onward;
        guarded-onward = λ e.
            let k = D.guarded-onward (sym (ap (λ (s : Budgeted). s.walk.end) gf) ∙ e) in (
              k.0,
              λ area l.
                  let m : Move = record { choice = k.0; area = area } in
                  (F.guarded w h _ m).answer ∙ ap (λ (s : Budgeted). (guarded_reply w h s m).answer) gf ∙ k.1 area l,
            );
        bounded-onward = λ e.
            let k = D.bounded-onward (sym end ∙ e) in
            (k.0, (F.bounded t _ k.0).answer ∙ ap (λ (s : Budgeted). (bounded_move t s k.0).answer) bf ∙ k.1);
        paths-kept = λ js bs c p. let k = D.paths-kept js bs c p in (λ l. (runs js bs).1 (k.0 l), λ y. k.1 ((runs js bs).0 y));
        lowered = D.lowered;
        claim-kept = λ js bs c p. let k = D.claim-kept js bs c p in (λ l. (runs js bs).1 (k.0 l), λ y. k.1 ((runs js bs).0 y));
        cycles-counted = ap (λ (c : ℕ). (graph w).cost (bounded_block t (x.walk v).walk) + c) spent ∙ D.cycles-counted;
        cycles-within = omega (arith, spent, D.cycles-within);
      }

  pub held-demand3 : KeepsDemand3 x
  held-demand3 i accepted n p q area room o v ms rooms =
      let w = i.sheet in
      let h = i.handler in
      let t = built_words i in
      let y : Outset = record { number = n; area = area } in
      let D = keeps-demand3 i accepted n p q area room (x.walk o) (x.walk v) ms rooms in
      let g = F.guarded-start w h o y in
      let b = F.bounded-start t v n in
      record {
        guarded-starts = g.answer ∙ D.guarded-starts;
        bounded-starts = b.answer ∙ D.bounded-starts;
        keeps = held_keeps w h t n _ (x.guarded-start w h o y).after (x.bounded-start t v n).after ms (rw (g.after, b.after) D.keeps);
      }

  pub held-from-start : KeepsFromStart x
  held-from-start i accepted first ms rooms =
      held_keeps i.sheet i.handler (built_words i) 1 starting x.start x.start ms (rw F.start (keeps-from-start i accepted first ms rooms))
