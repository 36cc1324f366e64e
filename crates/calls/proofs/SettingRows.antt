-- Any setting's rows, behind any header: a sheet that is written from them lays the copies out, and they and its entries keep rule 11.
-- Rests on theory Setting, Reach and Order, formats Reading and RuleKept.
use mathlib.Core.Path.{◌≡◌, refl, sym, ap, subst, ◌∙◌}
use mathlib.Core.Logic.{◌≢◌, ◌⊎◌, inl, inr, ⊎_elim}
use mathlib.Core.Bool.{Bool, true, false}
use mathlib.Core.List.Memᴰ
use mathlib.Core.List.{List, [], ◌∷◌, map, Memᴰ}
use mathlib.Core.Option
use mathlib.Core.Option.{Option, some, none, none-ne-some, some-injective}
use Prim.Native.Nat.{ℕ, suc, ◌-◌, ◌≤◌}
use native.Mathlib.Omega.{arith}
use borrow.Author.Tests.{ltb-true, ltb-false}
use lib.Dec.{ltb}
use lib.ListN.{length, length-map}
use Rattle.base.specs.Lists.{chosen, last_of, nth}
use Rattle.base.specs.Copy.{Copy, copy_of, number_from}
use Rattle.base.proofs.Lists.{chosen-map, chosen-mem, chosen-le, chosen-some, Distinct, one_place}
use Rattle.base.proofs.Numbers.{nth_in, nth-map, last-map, member-some}
use Rattle.base.proofs.Copies.{Rising, FirstOf, first_of, rising-distinct, number-chosen}
use Rattle.theory.specs.Completions.{Graph, low_of}
use Rattle.theory.specs.Copies.{targets, copy_for, target_number}
use Rattle.theory.specs.Setting.{Setting, Entry, starts, copies, exit_copy, LaysOut}
use Rattle.theory.proofs.Completions.{low-some}
use Rattle.theory.proofs.Reach.{target-mem, copy-sound, targets-in, start-in, start-only, exit_in, exit-only}
use Rattle.theory.proofs.Order.{copies-rise}
use Rattle.formats.specs.Limits.{most_blocks}
use Rattle.formats.specs.BoundedSheet.{Row, Heading, block_at, targets_at}
use Rattle.formats.proofs.Reading.{Laid, reads}
use Rattle.formats.proofs.RuleKept.{RowFits, Once, Starts, RowsFit, EntriesFit}
use Rattle.calls.specs.SheetGraph.{row_of, rows_of, entry_for}

module _ (S : Setting) where
  abbrev g : Graph
  g = S.task.graph

  abbrev cs : List Copy
  cs = copies S

  pub row_at : (i : ℕ) (c : Copy) → chosen cs i ≡ some c → chosen (rows_of g cs) i ≡ some (row_of g cs c)
  unfolding rows_of
  row_at i c q = chosen-map (row_of g cs) cs i ∙ ap (Option.map (row_of g cs)) q

  -- a sheet written from the copies lays them out
  pub lays-out : (h : Heading) (w : List ℕ) → Laid h w (rows_of g cs) → (x : ℕ) → chosen cs x ≡ some (exit_copy S)
      → LaysOut S (record { size = h.copies; block = block_at h w; next = targets_at h w; last = x })
  unfolding row_of rows_of
  lays-out h w L x e = record {
    size = L.copies ∙ length-map cs (row_of g cs);
    block = λ i c q. (reads h w (rows_of g cs) L i (row_of g cs c) (row_at i c q)).block;
    next = λ i c q. (reads h w (rows_of g cs) L i (row_of g cs c) (row_at i c q)).targets;
    last = e;
  }

  pub rises : Rising cs
  rises = copies-rise g S.task.blocks S.task.largest (starts S)

  pub apart : Distinct cs
  apart = rising-distinct cs rises

  -- a row is that of a copy
  copy-of : (i : ℕ) (r : Row) → chosen (rows_of g cs) i ≡ some r → (c : Copy) × (chosen cs i ≡ some c) × (row_of g cs c ≡ r)
  unfolding rows_of
  copy-of i r q = go (chosen cs i) refl (sym (chosen-map (row_of g cs) cs i) ∙ q)
    where
      go : (o : Option Copy) → chosen cs i ≡ o → Option.map (row_of g cs) o ≡ some r
          → (c : Copy) × (chosen cs i ≡ some c) × (row_of g cs c ≡ r)
      go none e p = absurd (none-ne-some r p)
      go (some c) e p = (c, e, some-injective _ r p)

  -- a target's word is 0 or the number of a target
  pub its-target : (c : Copy) → Memᴰ c cs → (t : ℕ) → Memᴰ t (map (target_number cs) (targets g c)) → t ≢ 0
      → (d : Copy) × Memᴰ (some d) (targets g c) × (chosen cs t ≡ some d)
  unfolding target_number
  its-target c m t i n = let o = Memᴰ.of_map (target_number cs) (targets g c) i in go o.0 o.1 o.2
    where
      go : (o : Option Copy) → Memᴰ o (targets g c) → target_number cs o ≡ t
          → (d : Copy) × Memᴰ (some d) (targets g c) × (chosen cs t ≡ some d)
      go none k e = absurd (n (sym e))
      go (some d) k e = (d, k, ap (chosen cs) (sym e) ∙ number-chosen d cs (targets-in S c d m k))

  -- RULE 11, the clauses that go by the records

  abbrev rows : List Row
  rows = rows_of S.task.graph (copies S)

  map-copy : (xs : List Copy) → map (λ (r : Row). r.copy) (map (row_of g cs) xs) ≡ xs
  unfolding row_of
  map-copy [] = refl
  map-copy (c ∷ xs) = ap (λ (l : List Copy). c ∷ l) (map-copy xs)

  pub once : (v i : ℕ) (c : Copy) → chosen cs i ≡ some c → c.block ≡ v → ((d : Copy) → Memᴰ d cs → d.block ≡ v → d ≡ c) → Once v rows
  unfolding row_of
  once v i c q e only = record {
    at = i;
    row = row_of g cs c;
    here = row_at i c q;
    is = e;
    alone = λ j r p x.
        let d = copy-of j r p in
        let y : d.0.block ≡ v = ap (λ (r : Row). r.copy.block) d.2 ∙ x in
        one_place cs apart j i c (d.1 ∙ ap some (only d.0 (chosen-mem cs j d.0 d.1) y)) q;
  }

  -- the exit has no targets
  no_targets : (c : Copy) → c.block ≡ 2 → map (target_number cs) (targets g c) ≡ []
  unfolding targets
  no_targets c e =
      ap (λ (ts : List ℕ). map (target_number cs) (map (copy_for g (c.low - g.cost c.block)) ts)) (ap g.next e ∙ S.laws.closed)

  -- the start copies come first
  pub first-copies : (k : ℕ) × FirstOf cs k
  first-copies = first_of cs rises (λ c m. (copy-sound S c m).1.place.0)

  -- how many they are
  abbrev pub starts_in : ℕ
  starts_in = first-copies.0

  starts_fit : Starts starts_in rows
  unfolding row_of rows_of
  starts_fit =
      let F = first-copies.1 in
      record {
        most = omega (arith, F.most, length-map cs (row_of g cs));
        is = λ i r q l. let c = copy-of i r q in sym (ap (λ (r : Row). r.copy.block) c.2) ∙ F.is i c.0 c.1 l;
        only = λ i r q e. let c = copy-of i r q in F.only i c.0 c.1 (ap (λ (r : Row). r.copy.block) c.2 ∙ e);
      }

  row_fits : S.task.blocks ≤ most_blocks → (c : Copy) → Memᴰ c cs → RowFits (length rows) starts_in S.task.largest (row_of g cs c)
  unfolding row_of rows_of
  row_fits few c m =
      let h = (copy-sound S c m).1 in
      record {
        block = omega (arith, h.place);
        low = h.small;
        exit = λ e. (ap (λ (c : Copy). c.low) (exit-only S c m e), no_targets c e);
        targets = λ t i n.
            let d = its-target c m t i n in
            let l = chosen-le cs t d.0 d.2 in
            let two = S.laws.above c.block d.0.block (target-mem g c d.0 d.1).0 in
            let k : (t ≤ starts_in) → ⊥ = λ p. absurd (omega (arith, two, first-copies.1.is t d.0 d.2 p)) in
            (⊎_elim (λ p. absurd (k p)) (λ p. p) (split t starts_in), omega (arith, l.1, length-map cs (row_of g cs)));
      }
    where
      split : (t k : ℕ) → (t ≤ k) ⊎ (suc k ≤ t)
      split t k = go (ltb k t) refl
        where
          go : (b : Bool) → ltb k t ≡ b → (t ≤ k) ⊎ (suc k ≤ t)
          go true e = inr (ltb-true k t e)
          go false e = inl (ltb-false k t e)

  -- the exit's place
  abbrev pub exit_at : ℕ
  exit_at = number_from 1 (exit_copy S) cs

  pub exit-here : chosen cs exit_at ≡ some (exit_copy S)
  exit-here = number-chosen (exit_copy S) cs (exit_in S)

  pub rows_fit : S.task.blocks ≤ most_blocks → RowsFit starts_in S.task.largest rows
  unfolding rows_of
  rows_fit few =
      record {
        starts = starts_fit;
        rise = rw (map-copy cs) rises;
        two = once 2 exit_at (exit_copy S) exit-here refl (exit-only S);
        row = λ i r q.
            let c = copy-of i r q in
            subst (RowFits (length rows) starts_in S.task.largest) c.2 (row_fits few c.0 (chosen-mem cs i c.0 c.1));
      }

  -- THE ENTRIES

  -- a budget that leaves block 1 a completion names its start copy, another nothing
  pub entry-some : (b a : ℕ) → Memᴰ b S.task.budgets → low_of g 1 b ≡ some a
      → (entry_for S.task b ≡ number_from 1 (copy_of 1 a) cs) × (chosen cs (entry_for S.task b) ≡ some (copy_of 1 a))
  unfolding entry_for copy_for target_number
  entry-some b a m e =
      let E : Entry S = record { budget = b; named = m; low = a; fits = e } in
      let n : entry_for S.task b ≡ number_from 1 (copy_of 1 a) cs = ap (λ (o : Option ℕ). target_number cs (Option.map (copy_of 1) o)) e in
      (n, ap (chosen cs) n ∙ number-chosen (copy_of 1 a) cs (start-in S E))

  pub entry-none : (b : ℕ) → low_of g 1 b ≡ none → entry_for S.task b ≡ 0
  unfolding entry_for copy_for target_number
  entry-none b e = ap (λ (o : Option ℕ). target_number cs (Option.map (copy_of 1) o)) e

  -- what a number that is not 0 says
  entry-e : (b : ℕ) → Memᴰ b S.task.budgets → entry_for S.task b ≢ 0
      → (a : ℕ) × (low_of g 1 b ≡ some a) × (chosen cs (entry_for S.task b) ≡ some (copy_of 1 a))
  entry-e b m n = go (low_of g 1 b) refl
    where
      go : (o : Option ℕ) → low_of g 1 b ≡ o → (a : ℕ) × (low_of g 1 b ≡ some a) × (chosen cs (entry_for S.task b) ≡ some (copy_of 1 a))
      go none e = absurd (n (entry-none b e))
      go (some a) e = (a, e, (entry-some b a m e).1)

  abbrev bs : List ℕ
  bs = S.task.budgets

  pub entries_fit : S.task.largest ≡ last_of S.task.budgets
      → EntriesFit S.task.budgets (map (entry_for S.task) S.task.budgets) starts_in rows
  unfolding row_of
  entries_fit last-is = record {
    fit = λ j p q n.
        let m = nth_in bs j p q in
        let x : nth (map (entry_for S.task) bs) j ≡ entry_for S.task (nth bs j) = nth-map (entry_for S.task) bs j p q in
        let e = entry-e (nth bs j) m (λ z. n (x ∙ z)) in
        let here : chosen cs (nth (map (entry_for S.task) bs) j) ≡ some (copy_of 1 e.0) = ap (chosen cs) x ∙ e.2 in (
          first-copies.1.only _ (copy_of 1 e.0) here refl,
          λ r c.
              let d = copy-of _ r c in
              let same : d.0 ≡ copy_of 1 e.0 = some-injective _ _ (sym d.1 ∙ here) in
              let low = (low-some g S.laws 1 (nth bs j) e.0 e.1).below in
              omega (arith, ap (λ (r : Row). r.copy.low) d.2, ap (λ (c : Copy). c.low) same),
        );
    last = λ z.
        let e = entry-some (last_of bs) S.start (subst (λ (b : ℕ). Memᴰ b bs) last-is S.named) (ap (low_of g 1) (sym last-is) ∙ S.opens) in
        let l = chosen-le cs _ _ e.1 in
        absurd (omega (arith, sym (last-map (entry_for S.task) bs (some-budget)) ∙ z, l.0));
    named = λ i p q.
        let c = chosen-some cs i p (omega (arith, first-copies.1.most)) in
        let b = first-copies.1.is i c.0 c.1 q in
        let E = start-only S c.0 (chosen-mem cs i c.0 c.1) b in
        let e = entry-some E.0.budget E.0.low E.0.named E.0.fits in
        let same : entry_for S.task E.0.budget ≡ i
        = one_place cs apart _ i c.0 (e.1 ∙ ap some E.1) c.1 in
        subst (λ (x : ℕ). Memᴰ x (map (entry_for S.task) bs)) same (Memᴰ.map (entry_for S.task) E.0.named);
  }
    where
      some-budget : 1 ≤ length S.task.budgets
      some-budget = member-some S.named
