-- A walk that is diverted before it sets out, with a budget that leaves block 1 no completion: it keeps the promises too.
-- Rests on base Lists, Completions, Paths, Agreement, specs Setting.
use mathlib.Core.Path.{◌≡◌, refl, sym, ap, ap₂, ◌∙◌}
use mathlib.Core.Logic.{◌≢◌}
use mathlib.Core.List.{List, [], ◌∷◌}
use mathlib.Core.Option.{none, some-injective}
use Prim.Native.Nat.{ℕ, zero, suc, ◌+◌}
use native.Mathlib.Omega.{arith}
use native.Mathlib.Nat.{zero-add}
use borrow.Author.Tests.{ne_eqb}
use lib.ListN.{length, replicate}
use Rattle.base.specs.Lists.{chosen}
use Rattle.base.specs.Copy.{Copy}
use Rattle.base.proofs.Lists.{chosen-le}
use Rattle.theory.specs.Completions.{low_of}
use Rattle.theory.specs.Machines.{End, going, exit, diverted, Reply, Machine, reply_at, reply, step_cycles, answers, final, cycles, zeros}
use Rattle.theory.specs.Walks.{Walk, stopped, most_moves, is_exit, InShape, monitor, Bounded, bounded_walk}
use Rattle.theory.specs.Setting.{Setting, copies, LaysOut, Agrees, PathsKept}
use Rattle.theory.proofs.Completions.{low-none}
use Rattle.theory.proofs.Paths.{path-completion}
use Rattle.theory.proofs.Reach.{two}
use Rattle.theory.proofs.Agreement.{first-copy}

-- a machine that stands diverted answers 32 to everything, and nothing changes
module _ {S X : Type 0} (m : Machine S X) (s : S) (e : m.stands s ≡ diverted) where
  stays : (k : ℕ) → reply m s k ≡ record { answer = 32; after = s }
  unfolding reply reply_at
  stays k = ap (λ (x : End). reply_at m x s k) e

  pub final-stopped : (ks : List ℕ) → final (reply m) s ks ≡ s
  unfolding final
  final-stopped [] = refl
  final-stopped (k ∷ ks) = ap (λ (r : Reply S). final (reply m) r.after ks) (stays k) ∙ final-stopped ks

  pub answers-stopped : (ks : List ℕ) → answers (reply m) s ks ≡ replicate (length ks) 32
  unfolding answers
  answers-stopped [] = refl
  answers-stopped (k ∷ ks) =
      ap₂ (λ x xs. x ∷ xs) (ap (λ (r : Reply S). r.answer) (stays k))
      (ap (λ (r : Reply S). answers (reply m) r.after ks) (stays k) ∙ answers-stopped ks)

  pub cycles-stopped : (cost : ℕ → ℕ) (view : S → ℕ) (stands : S → End) (ks : List ℕ) → cycles (reply m) cost view stands s ks ≡ 0
  unfolding cycles step_cycles
  cycles-stopped cost view stands [] = refl
  cycles-stopped cost view stands (k ∷ ks) =
      ap (λ (r : Reply S). step_cycles cost r.answer (stands r.after) (view r.after) + cycles (reply m) cost view stands r.after ks) (stays k)
      ∙ zero-add _ ∙ cycles-stopped cost view stands ks

no-zeros : (n : ℕ) → zeros (replicate n 32) ≡ 0
unfolding zeros
no-zeros zero = refl
no-zeros (suc n) = no-zeros n

-- an end is one alone
ended : (e : End) → e ≡ diverted → (e ≡ going → ⊥) × (e ≡ exit → ⊥)
ended e d = (
  λ g. absurd (let z : ◌≡◌ {A = ℕ} 0 1 = ap (λ (x : End). elim x [ going ↦ 0 | exit ↦ 2 | diverted ↦ 1 ]) (sym g ∙ d) in omega arith),
  λ g. absurd (let z : ◌≡◌ {A = ℕ} 2 1 = ap (λ (x : End). elim x [ going ↦ 0 | exit ↦ 2 | diverted ↦ 1 ]) (sym g ∙ d) in omega arith),
)

module _ (S : Setting) (b : ℕ) where
  pub monitor-stopped : InShape S.task.blocks 2 b stopped
  unfolding is_exit
  monitor-stopped = record { place = omega (arith, two S); ended = refl; count = omega arith }

  module _ (m : Bounded) (Y : LaysOut S m) where
    -- place 1 is a start copy's, and not the exit's
    first_block : m.block 1 ≡ 1
    first_block = let f = first-copy S in Y.block 1 f.0 f.1 ∙ f.2

    not_last : 1 ≢ m.last
    not_last e =
        let f = first-copy S in
        let z : f.0 ≡ _ = some-injective _ _ (sym f.1 ∙ ap (chosen (copies S)) e ∙ Y.last) in
        absurd (omega (arith, f.2, ap (λ (c : Copy). c.block) z))

    pub bounded-stopped : InShape m.size m.last (most_moves b diverted) stopped
    unfolding is_exit most_moves
    bounded-stopped =
        let f = first-copy S in
        let l = chosen-le (copies S) 1 f.0 f.1 in
        record { place = omega (arith, l, Y.size); ended = sym (ne_eqb 1 m.last not_last); count = omega arith }

    pub stopped-agrees : (ks : List ℕ) → Agrees S m b stopped stopped ks
    unfolding monitor bounded_walk most_moves
    stopped-agrees ks =
        let g = monitor S.task.graph b in
        let a = final-stopped g stopped refl ks in
        let c = final-stopped (bounded_walk m) stopped refl ks in
        let a-end = ap (λ (s : Walk). s.end) a in
        let c-end = ap (λ (s : Walk). s.end) c in
        record {
          answer = answers-stopped (bounded_walk m) stopped refl ks ∙ sym (answers-stopped g stopped refl ks);
          block = ap (λ (s : Walk). m.block s.place) c ∙ first_block ∙ sym (ap (λ (s : Walk). s.place) a);
          end = c-end ∙ sym a-end;
          count = omega (arith, ap (λ (s : Walk). s.count) a);
          spent = cycles-stopped (bounded_walk m) stopped refl _ _ _ ks ∙ sym (ap (λ (s : Walk). s.count) a);
          moves = ap (λ (s : Walk). s.count) c ∙ sym (ap zeros (answers-stopped (bounded_walk m) stopped refl ks) ∙ no-zeros (length ks));
          most = rw (c) (omega arith);
          monitor-onward = λ e. absurd ((ended _ a-end).0 e);
          bounded-onward = λ e. absurd ((ended _ c-end).0 e);
        }

    -- no path is within the budget, and none runs
    pub stopped-paths : low_of S.task.graph 1 b ≡ none → PathsKept S m b stopped
    unfolding PathsKept bounded_walk
    stopped-paths e ks bs c r = (
      λ l. absurd (low-none S.task.graph S.laws 1 b e c (path-completion r) l),
      λ u. absurd ((ended _ (ap (λ (s : Walk). s.end) (final-stopped (bounded_walk m) stopped refl ks))).1 u.end),
    )
