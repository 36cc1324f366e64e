-- A path runs unchanged over the copies exactly where it costs at most the low of its first copy.
-- Rests on Completions, Runs, Counts.
use mathlib.Core.Path.{◌≡◌, refl, sym, ap, ap₂, subst, ◌∙◌}
use mathlib.Core.Logic.{◌≢◌}
use mathlib.Core.List.Memᴰ
use mathlib.Core.List.{List, [], ◌∷◌, Memᴰ}
use mathlib.Core.Option.{Option, some, none, map}
use Prim.Native.Nat.{ℕ, suc, ◌-◌, ◌≤◌}
use native.Mathlib.Omega.{arith}
use borrow.Author.Tests.{ne_eqb}
use Rattle.base.specs.Lists.{chosen}
use Rattle.theory.specs.Completions.{Graph, Completion, exit, step, low_of}
use Rattle.base.specs.Copy.{copy_of}
use Rattle.theory.specs.Copies.{targets, copy_for}
use Rattle.theory.specs.Machines.{exit as at_exit, diverted, Reply, taken, reply, answers, final, shown, Unchanged}
use Rattle.theory.specs.Walks.{end_at, CopyWalk, entered, copy_take, copy_walk, Path, here, hop}
use Rattle.theory.specs.Setting.{WellFormed}
use Rattle.base.proofs.Lists.{chosen-map, chosen-mem, choice-of}
use Rattle.theory.proofs.Completions.{low-some, low-none, covers}
use Rattle.theory.proofs.Runs.{reply-going, stays}
use Rattle.theory.proofs.Counts.{not-diverted}

-- a path is a completion
pub path-completion : {g : Graph} {v c : ℕ} {ks bs : List ℕ} → Path g v ks bs c → Completion g v c
path-completion here = exit
path-completion {g} (hop {v = v} {t = t} {k = k} q r e) = step (chosen-mem (g.next v) k t q) (path-completion r) e

-- a completion is a path
pub completion-path : {g : Graph} {v c : ℕ} → Completion g v c → (ks : List ℕ) × (bs : List ℕ) × Path g v ks bs c
completion-path exit = ([], 2 ∷ [], here)
completion-path {g} (step {v = v} m r e) =
    let k = choice-of m in
    let p = completion-path r in
    (suc k.0 ∷ p.0, v ∷ p.1, hop k.1 p.2 e)

pub not-both : diverted ≡ at_exit → ⊥
not-both e = let z : ◌≡◌ {A = ℕ} 0 1 = cc in omega arith

module _ (g : Graph) (L : WellFormed g) where
  abbrev pub Runs : CopyWalk → List ℕ → List ℕ → Type 0
  Runs u ks bs = Unchanged (reply (copy_walk g)) (λ u. u.copy.block) (λ u. u.end) u ks bs

  -- a move by a choice that the block has
  not-exit : (v t k : ℕ) → chosen (g.next v) k ≡ some t → v ≢ 2
  not-exit v t k q e = Memᴰ.not-nil {a = t} (subst (Memᴰ t) (ap g.next e ∙ L.closed) (chosen-mem (g.next v) k t q))

  move : (v a m k t : ℕ) → chosen (g.next v) k ≡ some t
      → reply (copy_walk g) (entered (copy_of v a) m) k
      ≡ record { answer = 0; after = copy_take (entered (copy_of v a) m) (copy_for g (a - g.cost v) t) }
  unfolding copy_walk taken targets entered end_at
  move v a m k t q =
      reply-going (copy_walk g) (entered (copy_of v a) m) k (rw (ne_eqb v 2 (not-exit v t k q), end_at))
      ∙ ap (taken (copy_walk g) (entered (copy_of v a) m))
      (chosen-map (copy_for g (a - g.cost v)) (g.next v) k ∙ ap (map (copy_for g (a - g.cost v))) q)

  pub enters : (v a m k t d : ℕ) → chosen (g.next v) k ≡ some t → low_of g t (a - g.cost v) ≡ some d
      → reply (copy_walk g) (entered (copy_of v a) m) k
      ≡ record { answer = 0; after = entered (copy_of t d) (suc m) }
  unfolding copy_for copy_take entered
  enters v a m k t d q e =
      move v a m k t q
      ∙ ap (λ (o : Option ℕ). record { answer = 0; after = copy_take (entered (copy_of v a) m) (map (copy_of t) o) }) e

  diverts : (v a m k t : ℕ) → chosen (g.next v) k ≡ some t → low_of g t (a - g.cost v) ≡ none
      → (reply (copy_walk g) (entered (copy_of v a) m) k).after.end ≡ diverted
  unfolding copy_for copy_take entered
  diverts v a m k t q e =
      ap (λ (r : Reply CopyWalk). r.after.end) (move v a m k t q)
      ∙ ap (λ (o : Option ℕ). (copy_take (entered (copy_of v a) m) (map (copy_of t) o)).end) e

  -- a path that costs at most the low is answered 0 at each choice, shows its blocks, and ends at the exit
  pub runs : {v c : ℕ} {ks bs : List ℕ} → Path g v ks bs c → (a m : ℕ) → c ≤ a → Runs (entered (copy_of v a) m) ks bs
  unfolding answers shown final entered end_at
  runs here a m l = record { answer = refl; blocks = refl; end = refl }
  runs (hop {v = v} {t = t} {c = c} {k = k} {ks = ks} {bs = bs} q r e) a m l =
      go (low_of g t (a - g.cost v)) refl (λ d x. runs r d (suc m) x)
    where
      go : (o : Option ℕ) → low_of g t (a - g.cost v) ≡ o → ((d : ℕ) → c ≤ d → Runs (entered (copy_of t d) (suc m)) ks bs)
          → Runs (entered (copy_of v a) m) (k ∷ ks) (v ∷ bs)
      go none p below = absurd (low-none g L t (a - g.cost v) p c (path-completion r) (omega arith))
      go (some d) p below =
          let w = low-some g L t (a - g.cost v) d p in
          let h = below d (w.most c (path-completion r) (omega arith)) in
          let s = enters v a m k t d q p in
          record {
            answer = ap₂ (λ x y. x ∷ y) (ap (λ z. z.answer) s) (ap (λ z. answers (reply (copy_walk g)) z.after ks) s ∙ h.answer);
            blocks = ap (λ y. v ∷ y) (ap (λ z. shown (reply (copy_walk g)) (λ u. u.copy.block) z.after ks) s ∙ h.blocks);
            end = ap (λ z. (final (reply (copy_walk g)) z.after ks).end) s ∙ h.end;
          }

  pub only : {v c : ℕ} {ks bs : List ℕ} → Path g v ks bs c → (a m : ℕ) → g.cost v ≤ a
      → (final (reply (copy_walk g)) (entered (copy_of v a) m) ks).end ≡ at_exit → c ≤ a
  unfolding final copy_walk
  only here a m l e = omega arith
  only (hop {v = v} {t = t} {c = c} {n = n} {k = k} {ks = ks} q r e) a m l f =
      go (low_of g t (a - g.cost v)) refl (λ d x y. only r d (suc m) x y)
    where
      go : (o : Option ℕ) → low_of g t (a - g.cost v) ≡ o
          → ((d : ℕ) → g.cost t ≤ d → (final (reply (copy_walk g)) (entered (copy_of t d) (suc m)) ks).end ≡ at_exit → c ≤ d) → n ≤ a
      go none p below =
          let x = (reply (copy_walk g) (entered (copy_of v a) m) k).after in
          let y : x.end ≡ diverted = diverts v a m k t q p in
          let z : final (reply (copy_walk g)) x ks ≡ x = stays (copy_walk g) x (λ e. not-diverted (sym y ∙ e)) ks in
          absurd (not-both (sym y ∙ sym (ap (λ (u : CopyWalk). u.end) z) ∙ f))
      go (some d) p below =
          let w = low-some g L t (a - g.cost v) d p in
          let s = enters v a m k t d q p in
          omega (arith, w.below, below d (covers g L w.cost) (sym (ap (λ z. (final (reply (copy_walk g)) z.after ks).end) s) ∙ f))
