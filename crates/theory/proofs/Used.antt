-- A block has a copy exactly where a kept path enters it.
-- Rests on Completions, Paths, Reach.
use mathlib.Core.Path.{◌≡◌, refl, sym, ap, subst}
use mathlib.Core.Logic.{◌⊎◌, inl, inr, ◌↔◌}
use mathlib.Core.List.Memᴰ
use mathlib.Core.List.{List, ◌∷◌, Memᴰ}
use mathlib.Core.Option.{Option, some, none}
use Prim.Native.Nat.{ℕ, ◌-◌, ◌≤◌}
use native.Mathlib.Omega.{arith}
use Rattle.base.specs.Copy.{Copy, copy_of}
use Rattle.base.proofs.Lists.{chosen-mem, choice-of}
use Rattle.theory.specs.Completions.{Graph, low_of}
use Rattle.theory.specs.Copies.{Reached, start, along}
use Rattle.theory.specs.Walks.{Path, here, hop}
use Rattle.theory.specs.Setting.{WellFormed, Setting, Entry, Kept, starts, copies}
use Rattle.theory.proofs.Completions.{low-some, low-none}
use Rattle.theory.proofs.Paths.{path-completion, completion-path}
use Rattle.theory.proofs.Reach.{target-i, sound, in-reached, copy-sound, targets-in, start-in, entry_of}

module _ (S : Setting) where
  abbrev g : Graph
  g = S.task.graph

  abbrev L : WellFormed S.task.graph
  L = S.laws

  -- v is the block of a copy
  abbrev Used : ℕ → Type 0
  Used v = (c : Copy) × Memᴰ c (copies S) × (c.block ≡ v)

  -- a path from a reached copy that costs at most its low is the rest of a kept path
  rest-kept : {j n : ℕ} {c : Copy} {ks bs : List ℕ} → Reached g (starts S) j c → Path g c.block ks bs n → n ≤ c.low
      → (v : ℕ) → Memᴰ v bs → Kept g S.task.largest v
  rest-kept {n = n} {ks = ks} {bs = bs} (start {c = c} m) p l v i =
      let first : c.block ≡ 1 = sym (ap (λ (d : Copy). d.block) (entry_of S c m).1) in
      record {
        choices = ks;
        blocks = bs;
        cost = n;
        path = subst (λ (u : ℕ). Path g u ks bs n) first p;
        within = omega (arith, (sound S (start m)).small);
        enters = i;
      }
  rest-kept (along r m e w) p l v i =
      rest-kept r (hop (choice-of m).1 p refl) (omega (arith, w.below)) v (Memᴰ.tail i)

  -- every block of a path from a copy that costs at most its low has a copy
  path-used : {u c : ℕ} {ks bs : List ℕ} → Path g u ks bs c → (a : ℕ) → Memᴰ (copy_of u a) (copies S) → c ≤ a
      → (v : ℕ) → Memᴰ v bs → Used v
  path-used here a m l v i = (copy_of 2 a, m, sym (Memᴰ.eq_of_singleton i))
  path-used (hop {v = u} {t = t} {c = c} {k = k} {bs = bs} q r e) a m l v i =
      go (low_of g t (a - g.cost u)) refl (path-used r) (Memᴰ.cases_cons i)
    where
      go : (o : Option ℕ) → low_of g t (a - g.cost u) ≡ o
          → ((d : ℕ) → Memᴰ (copy_of t d) (copies S) → c ≤ d → (v : ℕ) → Memᴰ v bs → Used v)
          → (v ≡ u) ⊎ Memᴰ v bs → Used v
      go o p below (inl x) = (copy_of u a, m, sym x)
      go none p below (inr x) = absurd (low-none g L t (a - g.cost u) p c (path-completion r) (omega arith))
      go (some d) p below (inr x) =
          let w = low-some g L t (a - g.cost u) d p in
          let n = targets-in S (copy_of u a) (copy_of t d) m (target-i g u a t d (chosen-mem (g.next u) k t q) p) in
          below d n (w.most c (path-completion r) (omega arith)) v x

  kept-used : (v : ℕ) → Kept g S.task.largest v → Used v
  kept-used v K =
      let E : Entry S = record { budget = S.task.largest; named = S.named; low = S.start; fits = S.opens } in
      let w = low-some g L 1 S.task.largest S.start S.opens in
      path-used K.path S.start (start-in S E) (w.most K.cost (path-completion K.path) K.within) v K.enters

  -- a path's first block is among its blocks
  first_block : {u c : ℕ} {ks bs : List ℕ} → Path g u ks bs c → (v : ℕ) → v ≡ u → Memᴰ v bs
  first_block here v e = Memᴰ.head e
  first_block (hop q r p) v e = Memᴰ.head e

  used-kept : (v : ℕ) → Used v → Kept g S.task.largest v
  used-kept v (c, m, e) =
      let r = in-reached S c m in
      let p = completion-path (copy-sound S c m).1.cost in
      rest-kept r.1 p.2 (omega arith) v (first_block p.2 v (sym e))

  -- every reached copy lies on a kept path, and every block of a kept path has a copy
  pub used : (v : ℕ) → ((c : Copy) × Memᴰ c (copies S) × (c.block ≡ v)) ↔ Kept S.task.graph S.task.largest v
  used v = (used-kept v, kept-used v)
