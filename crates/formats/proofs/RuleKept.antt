-- A sheet that is written from rows that fit keeps rule 11, clause by clause.
-- Rests on base Truth, Copies and Orders, Budgets, Headings, Reading.
use mathlib.Core.Path.{◌≡◌, refl, sym, ap, subst, ◌∙◌}
use mathlib.Core.Logic.{◌≢◌}
use mathlib.Core.Bool.{Bool, true, false, ◌&&◌, not}
use mathlib.Core.List.Memᴰ
use mathlib.Core.List.{List, [], ◌∷◌, map, Memᴰ}
use mathlib.Core.Option
use mathlib.Core.Option.{some}
use Prim.Native.Nat.{ℕ, suc, ◌+◌, ◌-◌, ◌≤◌}
use native.Mathlib.Omega.{arith}
use native.Mathlib.Decide.{ℕ_discrete}
use borrow.Author.Tests.{eq-eqb, ne_eqb, eqb-true, le-ltb}
use lib.Dec.{eqb, ltb}
use lib.ListN.{length}
use Rattle.base.specs.Lists.{all, from, member, chosen, equal, last_of, nth}
use Rattle.base.specs.Copy.{before}
use Rattle.base.proofs.Truth.{and_i, or_l, or_r, none_any}
use Rattle.base.proofs.Lists.{each-e, member-i, keep-i, keep-e, from-i, from-e, chosen-map, chosen-some, chosen-le, keep_one, keep-front}
use Rattle.base.proofs.Copies.{Rising, rising-chosen}
use Rattle.base.specs.Checks.{outside}
use Rattle.formats.specs.Limits.{most_blocks, most_budget, least_budgets, most_budgets, least_copies, most_copies, least_bounded_edges, most_bounded_edges}
use Rattle.formats.specs.BoundedSheet.{Row, first_edge, edge_count, Preface, sheet_words, Heading, heading, entries_in, bounded_length}
use Rattle.formats.specs.BoundedSheet.{block_at, low_at, first_at, target_at, copy_at, chain_at, targets_at}
use Rattle.formats.specs.Versions.{budgets_at, budget_count, budgets_in, bad_budget, bad_budgets, Claimed}
use Rattle.formats.specs.Rule11.{too_short, bad_limits, wrong_length, bad_blocks, bad_lows, bad_copy_order, copies_of}
use Rattle.formats.specs.Rule11.{not_one_of, bad_exit, bad_edge_order, start_count, bad_target_words, entry_fits, bad_entries, no_last_entry}
use Rattle.formats.specs.Rule11.{unnamed_start, bounded_order, bounded_refusal, Formed, Ruled, Entered}
use Rattle.base.proofs.Orders.{Numbered, passed, none_left, not-outside}
use Rattle.formats.proofs.Budgets.{bounded-records, budgets-there}
use Rattle.formats.proofs.Headings.{Proper, header-reads}
use Rattle.formats.proofs.Reading.{Laid, laid, Reads, reads, met, laid-length}

-- what one row of a sheet of n copies may say, the first k of which are start copies, and whose largest budget is b
pub record RowFits (n k b : ℕ) (r : Row) : Type 0 where
  pub block : (1 ≤ r.copy.block) × (r.copy.block ≤ most_blocks)
  pub low : r.copy.low ≤ b
  pub exit : r.copy.block ≡ 2 → (r.copy.low ≡ 0) × (r.target_words ≡ [])
  pub targets : (t : ℕ) → Memᴰ t r.target_words → t ≢ 0 → (suc k ≤ t) × (t ≤ n)

-- one row alone is of block v
pub record Once (v : ℕ) (rs : List Row) : Type 0 where
  pub at : ℕ
  pub row : Row
  pub here : chosen rs at ≡ some row
  pub is : row.copy.block ≡ v
  pub alone : (i : ℕ) (r : Row) → chosen rs i ≡ some r → r.copy.block ≡ v → i ≡ at

-- the first k rows are those of block 1, the start copies
pub record Starts (k : ℕ) (rs : List Row) : Type 0 where
  pub most : k ≤ length rs
  pub is : (i : ℕ) (r : Row) → chosen rs i ≡ some r → i ≤ k → r.copy.block ≡ 1
  pub only : (i : ℕ) (r : Row) → chosen rs i ≡ some r → r.copy.block ≡ 1 → i ≤ k

-- what rows have to keep behind any header
pub record RowsFit (k b : ℕ) (rs : List Row) : Type 0 where
  pub starts : Starts k rs
  pub rise : Rising (map (λ r. r.copy) rs)
  pub two : Once 2 rs
  pub row : (i : ℕ) (r : Row) → chosen rs i ≡ some r → RowFits (length rs) k b r

-- what entries have to keep: one is 0 or names a start copy within its budget, the last is not 0, and every start copy is named
pub record EntriesFit (bs es : List ℕ) (k : ℕ) (rs : List Row) : Type 0 where
  pub fit : (j : ℕ) → 1 ≤ j → j ≤ length bs → nth es j ≢ 0
      → (nth es j ≤ k) × ((r : Row) → chosen rs (nth es j) ≡ some r → r.copy.low ≤ nth bs j)
  pub last : last_of es ≢ 0
  pub named : (i : ℕ) → 1 ≤ i → i ≤ k → Memᴰ i es

-- and behind the header
pub record Fits (p : Preface) (rs : List Row) : Type 0 where
  pub few : (least_copies ≤ length rs) × (length rs ≤ most_copies)
  pub edges : (least_bounded_edges ≤ edge_count rs) × (edge_count rs ≤ most_bounded_edges)
  pub proper : Proper p
  pub claims : Claimed p.budgets
  pub starts : ℕ
  pub rows : RowsFit starts (last_of p.budgets) rs
  pub entries : EntriesFit p.budgets p.entries starts rs

equal-refl : (xs : List ℕ) → equal xs xs ≡ true
unfolding equal
equal-refl [] = refl
equal-refl (x ∷ xs) = and_i (eq-eqb x x refl) (equal-refl xs)

-- A SHEET WRITTEN FROM ROWS THAT FIT KEEPS THE RULE
module _ (h : Heading) (s : List ℕ) (rs : List Row) (k : ℕ) (L : Laid h s rs) (F : RowsFit k h.largest rs) where
  -- the row at a place, and what it reads as
  record At (i : ℕ) : Type 0 where
    row : Row
    here : chosen rs i ≡ some row
    reading : Reads h s rs i row

  at : (i : ℕ) → Memᴰ i (from 1 h.copies) → At i
  at i m =
      let l = from-e h.copies 1 i m in
      let r = chosen-some rs i l.0 (omega (arith, L.copies)) in
      record { row = r.0; here = r.1; reading = reads h s rs L i r.0 r.1 }

  blocks-fit : bad_blocks h s ≡ false
  unfolding bad_blocks
  blocks-fit = none_any (λ i. outside 1 most_blocks (block_at h s i)) (from 1 h.copies) (λ i m.
      let a = at i m in
      let f = F.row i a.row a.here in
      rw a.reading.block (not-outside 1 most_blocks _ f.block.0 f.block.1))

  lows-fit : bad_lows h s ≡ false
  unfolding bad_lows
  lows-fit = none_any (λ i. ltb h.largest (low_at h s i)) (from 1 h.copies) (λ i m.
      let a = at i m in
      rw a.reading.low (le-ltb h.largest _ (F.row i a.row a.here).low))

  copy_is : (i : ℕ) (a : At i) → copy_at h s i ≡ a.row.copy
  unfolding copy_at
  copy_is i a = λ j. record { block = a.reading.block j; low = a.reading.low j }

  order-fits : bad_copy_order h s ≡ false
  unfolding bad_copy_order
  order-fits = none_any (λ i. not (before (copy_at h s i) (copy_at h s (suc i)))) (from 1 (h.copies - 1)) (λ i m.
      let l = from-e (h.copies - 1) 1 i m in
      let a = at i (from-i h.copies 1 i l.0 (omega arith)) in
      let c = at (suc i) (from-i h.copies 1 (suc i) (omega arith) (omega arith)) in
      let copy-of : (j : ℕ) (x : At j) → chosen (map (λ r. r.copy) rs) j ≡ some x.row.copy
      = λ j x. chosen-map (λ r. r.copy) rs j ∙ ap (Option.map (λ r. r.copy)) x.here in
      rw (copy_is i a, copy_is (suc i) c)
      (ap not (rising-chosen (map (λ r. r.copy) rs) F.rise i (suc i) _ _ (omega arith) (copy-of i a) (copy-of (suc i) c))))

  -- where one row alone is of a block, its copy alone is
  pub once : (v : ℕ) → (O : Once v rs) → copies_of h s v ≡ O.at ∷ []
  unfolding copies_of
  once v O =
      let l = chosen-le rs O.at O.row O.here in
      let r = reads h s rs L O.at O.row O.here in
      keep_one (λ i. eqb (block_at h s i) v) O.at (eq-eqb _ v (r.block ∙ O.is)) h.copies 1 l.0 (omega (arith, l, L.copies))
      (λ i p q e.
      let a = at i (from-i h.copies 1 i p q) in
      O.alone i a.row a.here (sym a.reading.block ∙ eqb-true _ v e))

  pub one-fits : (v : ℕ) → Once v rs → not_one_of h s v ≡ false
  unfolding not_one_of
  one-fits v O = rw (once v O) refl

  exit-fits : bad_exit h s ≡ false
  unfolding bad_exit first_edge
  exit-fits =
      let O = F.two in
      let r = reads h s rs L O.at O.row O.here in
      let x = (F.row O.at O.row O.here).exit O.is in
      let low : eqb (low_at h s O.at) 0 ≡ true = eq-eqb _ 0 (r.low ∙ x.0) in
      let first : eqb (first_at h s O.at) 0 ≡ true = eq-eqb _ 0 (r.first ∙ ap (first_edge _) x.1) in
      rw (once 2 O) (none_any (λ i. not (eqb (low_at h s i) 0 && eqb (first_at h s i) 0)) (O.at ∷ []) (λ i m.
      rw (Memᴰ.eq_of_singleton m) (ap not (and_i low first))))

  -- the start copies are counted
  is-start : (i : ℕ) → 1 ≤ i → i ≤ h.copies → eqb (block_at h s i) 1 ≡ true → i ≤ k
  is-start i p q e =
      let a = at i (from-i h.copies 1 i p (omega arith)) in
      F.starts.only i a.row a.here (sym a.reading.block ∙ eqb-true _ 1 e)

  start_is : (i : ℕ) → 1 ≤ i → i ≤ k → eqb (block_at h s i) 1 ≡ true
  start_is i p q =
      let a = at i (from-i h.copies 1 i p (omega (arith, F.starts.most, L.copies))) in
      eq-eqb _ 1 (a.reading.block ∙ F.starts.is i a.row a.here q)

  starts-front : copies_of h s 1 ≡ from 1 (start_count h s)
  unfolding copies_of start_count
  starts-front = keep-front (λ i. eqb (block_at h s i) 1) h.copies 1 (λ y p l e.
      start_is y p (omega (arith, is-start (suc y) (omega arith) (omega arith) e)))

  pub starts-counted : start_count h s ≡ k
  unfolding copies_of start_count
  starts-counted = go (start_count h s) refl
    where
      test : ℕ → Bool
      test i = eqb (block_at h s i) 1

      go : (m : ℕ) → start_count h s ≡ m → start_count h s ≡ k
      go m e = omega (arith, low (ℕ_discrete m 0), high (ℕ_discrete k 0))
        where
          low : Dec (m ≡ 0) → m ≤ k
          low (yes z) = omega arith
          low (no z) =
              let i : Memᴰ m (copies_of h s 1)
              = subst (Memᴰ m) (sym starts-front) (from-i (start_count h s) 1 m (omega arith) (omega arith)) in
              let t = keep-e test (from 1 h.copies) i in
              let r = from-e h.copies 1 m t.0 in
              is-start m r.0 (omega arith) t.1

          high : Dec (k ≡ 0) → k ≤ m
          high (yes z) = omega arith
          high (no z) =
              let i = keep-i test (from 1 h.copies) (from-i h.copies 1 k (omega arith) (omega (arith, F.starts.most, L.copies)))
              (start_is k (omega arith) (omega arith)) in
              let r = from-e (start_count h s) 1 k (subst (Memᴰ k) starts-front i) in
              omega arith

  edges_fit : bad_edge_order h s ≡ false
  unfolding bad_edge_order
  edges_fit = rw (met h s rs L) (ap not (equal-refl (from 1 h.edges)))

  targets-fit : bad_target_words h s ≡ false
  unfolding bad_target_words targets_at
  targets-fit = none_any (λ e. not (eqb (target_at h s e) 0) && outside (suc (start_count h s)) h.copies (target_at h s e)) (from 1 h.edges) (λ e m.
      let c = each-e (chain_at h s) (from 1 h.copies) (subst (Memᴰ e) (sym (met h s rs L)) m) in
      let a = at c.0 c.1 in
      let t = subst (Memᴰ (target_at h s e)) a.reading.targets (Memᴰ.map (target_at h s) c.2) in
      go (target_at h s e) ((F.row c.0 a.row a.here).targets (target_at h s e) t) (ℕ_discrete (target_at h s e) 0))
    where
      go : (t : ℕ) → (t ≢ 0 → (suc k ≤ t) × (t ≤ length rs)) → Dec (t ≡ 0)
          → (not (eqb t 0) && outside (suc (start_count h s)) h.copies t) ≡ false
      go t f (yes e) = rw (eq-eqb t 0 e)
      go t f (no e) =
          rw (ne_eqb t 0 e)
          (not-outside (suc (start_count h s)) h.copies t (omega (arith, (f e).0, starts-counted)) (omega (arith, (f e).1, L.copies)))

  pub records-fit : (least_copies ≤ length rs) × (length rs ≤ most_copies) → (least_bounded_edges ≤ edge_count rs) × (edge_count rs ≤ most_bounded_edges)
      → Ruled h s
  records-fit few edges = record {
    form = record { copies = omega (arith, few, L.copies); edges = omega (arith, edges, L.edges); size = laid-length L };
    blocks = blocks-fit;
    lows = lows-fit;
    order = order-fits;
    two = one-fits 2 F.two;
    exit = exit-fits;
    edges = edges_fit;
    targets = targets-fit;
  }

  -- THE ENTRIES
  module _ (bs es : List ℕ) (E : EntriesFit bs es k rs) where
    entry-fits : (j : ℕ) → 1 ≤ j → j ≤ length bs → entry_fits h s (nth bs j) (nth es j) ≡ true
    unfolding entry_fits
    entry-fits j p q = go (nth es j) refl (ℕ_discrete (nth es j) 0)
      where
        go : (e : ℕ) → nth es j ≡ e → Dec (e ≡ 0) → entry_fits h s (nth bs j) e ≡ true
        go e x (yes z) = or_l _ (eq-eqb e 0 z)
        go e x (no z) =
            let f = E.fit j p q (λ y. z (sym x ∙ y)) in
            let c : e ≤ h.copies = omega (arith, f.0, F.starts.most, L.copies) in
            let a = at e (from-i h.copies 1 e (omega arith) (omega arith)) in
            let low : low_at h s e ≤ nth bs j
            = omega (arith, a.reading.low, f.1 a.row (subst (λ (y : ℕ). chosen rs y ≡ some a.row) (sym x) a.here)) in
            or_r (eqb e 0) (and_i (ap not (not-outside 1 h.copies e (omega arith) c))
            (and_i (start_is e (omega arith) (omega (arith, f.0))) (ap not (le-ltb (nth bs j) _ low))))

    pub entries_fit : Entered h s bs es
    unfolding bad_entries no_last_entry unnamed_start
    entries_fit = record {
      fit = none_any (λ j. not (entry_fits h s (nth bs j) (nth es j))) (from 1 (length bs)) (λ j m.
          let l = from-e (length bs) 1 j m in ap not (entry-fits j l.0 (omega arith)));
      last = ne_eqb (last_of es) 0 E.last;
      named = none_any (λ i. not (member i es)) (copies_of h s 1) (λ i m.
          let l = from-e (start_count h s) 1 i (subst (Memᴰ i) starts-front m) in
          ap not (member-i (E.named i l.0 (omega (arith, starts-counted)))));
    }

-- a sheet of the length that its header says, within the limits
pub form-fits : (h : Heading) (s : List ℕ) → Formed h s → (bad_limits h s ≡ false) × (wrong_length h s ≡ false)
unfolding bad_limits wrong_length
form-fits h s F = (
  rw (not-outside least_copies most_copies h.copies F.copies.0 F.copies.1)
      (not-outside least_bounded_edges most_bounded_edges h.edges F.edges.0 F.edges.1),
  ap not (eq-eqb (length s) (bounded_length h) F.size),
)

-- budgets that are all there, within their limits
pub claims-fit : (w : List ℕ) → length (budgets_in w) ≡ budget_count w → Claimed (budgets_in w) → (bad_budget w ≡ false) × (bad_budgets w ≡ false)
unfolding bad_budget bad_budgets
claims-fit w n C = (
  none_any (λ b. ltb most_budget b) (budgets_in w) (λ b m. le-ltb most_budget b (C.small b m)),
  rw (not-outside least_budgets most_budgets (budget_count w) (omega (arith, n, C.count)) (omega (arith, n, C.count))) (ap not C.rise),
)

-- behind the header
pub fits-rule : (p : Preface) (rs : List Row) → Fits p rs → bounded_refusal (sheet_words p rs) ≡ 0
unfolding bounded_refusal bounded_order too_short
fits-rule p rs F =
    let s = sheet_words p rs in
    let h = heading (sheet_words p rs) in
    let n : 1 ≤ length rs = omega (arith, F.few) in
    let L = laid p rs F.proper n in
    let Q = header-reads p rs F.proper n in
    let G : RowsFit F.starts h.largest rs
    = subst (λ (b : ℕ). RowsFit F.starts b rs) (sym (ap (λ (h : Heading). h.largest) Q.counts)) F.rows in
    let R = records-fit h s rs F.starts L G F.few F.edges in
    let form = form-fits h s R.form in
    let there : budgets_at s + budget_count s ≤ length s = omega (arith, bounded-records s, R.form.size) in
    let claims = claims-fit s (budgets-there s there) (subst Claimed (sym Q.budgets) F.claims) in
    let E : Entered h s (budgets_in s) (entries_in s)
    = subst (λ (bs : List ℕ). Entered h s bs (entries_in s)) (sym Q.budgets)
    (subst (Entered h s p.budgets) (sym Q.entries) (entries_fit h s rs F.starts L G p.budgets p.entries F.entries)) in
    passed 11 too_short _ s (le-ltb (length s) 3 (omega (arith, R.form.size, R.form.copies)))
    (passed 11 _ _ s form.0
    (passed 11 _ _ s form.1
    (passed 11 _ _ s claims.0
    (passed 11 _ _ s claims.1
    (passed 11 _ _ s R.blocks
    (passed 11 _ _ s R.lows
    (passed 11 _ _ s R.order
    (passed 11 _ _ s R.two
    (passed 11 _ _ s R.exit
    (passed 11 _ _ s R.edges
    (passed 11 _ _ s R.targets
    (passed 11 _ _ s E.fit
    (passed 11 _ _ s E.last
    (passed 11 _ _ s E.named (none_left s)))))))))))))))

-- no clause is numbered 0
pub bounded-numbered : Numbered bounded_order
unfolding all bounded_order
bounded-numbered = refl
