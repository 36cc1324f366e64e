-- A sheet that keeps rule 11 is written from rows that fit; so the rule, clause by clause, is that there are such rows.
-- Rests on base Truth, Copies and Orders, Budgets, Headings, Reading, RuleKept, RuleWords.
use mathlib.Core.Path.{◌≡◌, refl, sym, ap, ap₂, subst, ◌∙◌}
use mathlib.Core.Logic.{◌≢◌, ◌↔◌, ⊎_elim}
use mathlib.Core.Bool.{Bool, true, false, ◌&&◌, not}
use mathlib.Core.List.Memᴰ
use mathlib.Core.List.{List, [], ◌∷◌, ◌++◌, map, append-nil, Memᴰ}
use mathlib.Core.Option
use mathlib.Core.Option.{Option, some, none, none-ne-some, some-injective}
use Prim.Native.Nat.{ℕ, zero, suc, ◌+◌, ◌-◌, ◌*◌, ◌≤◌, ◌<◌}
use native.Mathlib.Omega.{arith}
use native.Mathlib.Decide.{ℕ_discrete}
use borrow.Author.Tests.{eq-eqb, ne_eqb, eqb-true, ltb-false, not-false, not-true}
use lib.Dec.{eqb, ltb}
use lib.ListN.{length, take, drop, take-append-drop, length-map}
use lib.Seq.{drop-length, length-take-le}
use Rattle.base.specs.Lists.{each, from, member, chosen, equal, last_of, nth}
use Rattle.base.specs.Copy.{Copy, before}
use Rattle.base.proofs.Truth.{not-both, and-e, or-e, or-false, any_false}
use Rattle.base.proofs.Lists.{each-i, member-e, keep-i, keep-e, keep-front, from-i, from-e, from-length, chosen-map, chosen-le, chosen-some}
use Rattle.base.proofs.Copies.{Rising, before-cases, before-trans}
use Rattle.formats.specs.Limits.{least_words, most_blocks, most_budget, least_copies, most_copies, least_bounded_edges, most_bounded_edges}
use Rattle.formats.specs.Words.{follow, Inside}
use Rattle.base.specs.Checks.{outside}
use Rattle.formats.specs.Versions.{is_second, budgets_in, Claimed}
use Rattle.formats.specs.BoundedSheet.{Row, copy_words, edge_words, edge_count, record_words, Preface, heading_words, sheet_words}
use Rattle.formats.specs.BoundedSheet.{Heading, heading, entries_in, preface_in, bounded_length}
use Rattle.formats.specs.BoundedSheet.{block_at, low_at, first_at, target_at, next_at, copy_at, chain_at, targets_at}
use Rattle.formats.specs.Rule11.{too_short, bad_limits, wrong_length, bad_blocks, bad_lows, bad_copy_order, copies_of}
use Rattle.formats.specs.Rule11.{not_one_of, bad_exit, bad_edge_order, start_count, bad_target_words, entry_fits, bad_entries, no_last_entry}
use Rattle.formats.specs.Rule11.{unnamed_start, bounded_order, bounded_refusal, Formed, Ruled, Entered}
use Rattle.base.proofs.Orders.{unrefused, inside_of}
use Rattle.formats.proofs.Budgets.{bounded-records, claimed, largest-small}
use Rattle.formats.proofs.Headings.{header-was, largest-is, read-proper}
use Rattle.formats.proofs.Reading.{Laid, edge_place}
use Rattle.formats.proofs.RuleKept.{RowFits, Once, Starts, RowsFit, EntriesFit, Fits, fits-rule}
use Rattle.formats.proofs.RuleWords.{row_at, rows, CopiesWere, copies-were}

-- the limits and the length give the form
pub formed : (h : Heading) (s : List ℕ) → bad_limits h s ≡ false → wrong_length h s ≡ false → Formed h s
unfolding bad_limits wrong_length
formed h s l w =
    let p = or-false _ _ l in
    record {
      copies = inside_of least_copies most_copies h.copies p.0;
      edges = inside_of least_bounded_edges most_bounded_edges h.edges p.1;
      size = eqb-true (length s) (bounded_length h) (not-false _ w);
    }

-- WHAT THE CLAUSES SAY: a header that is there, one to four rising budgets, records that keep the rule, and entries
pub record Clauses (s : List ℕ) : Type 0 where
  pub long : least_words ≤ length s
  pub there : (heading s).records ≤ length s
  pub claims : Claimed (budgets_in s)
  pub budget : (heading s).largest ≤ most_budget
  pub ruled : Ruled (heading s) s
  pub entered : Entered (heading s) s (budgets_in s) (entries_in s)

pub clauses : (s : List ℕ) → bounded_refusal s ≡ 0 → Clauses s
unfolding bounded_refusal bounded_order too_short
clauses s e =
    let a = unrefused 10 _ _ s e in
    let b = unrefused 10 _ _ s a.1 in
    let c = unrefused 10 _ _ s b.1 in
    let d = unrefused 10 _ _ s c.1 in
    let g = unrefused 10 _ _ s d.1 in
    let h = unrefused 10 _ _ s g.1 in
    let i = unrefused 10 _ _ s h.1 in
    let j = unrefused 10 _ _ s i.1 in
    let k = unrefused 10 _ _ s j.1 in
    let l = unrefused 10 _ _ s k.1 in
    let m = unrefused 10 _ _ s l.1 in
    let n = unrefused 10 _ _ s m.1 in
    let o = unrefused 10 _ _ s n.1 in
    let q = unrefused 10 _ _ s o.1 in
    let r = unrefused 10 _ _ s q.1 in
    let form = formed (heading s) s b.0 c.0 in
    let there : (heading s).records ≤ length s = omega (arith, form.size) in
    let claims : Claimed (budgets_in s) = claimed s (omega (arith, bounded-records s)) d.0 g.0 in
    record {
      long = ltb-false (length s) least_words a.0;
      there = there;
      claims = claims;
      budget = omega (arith, largest-is s, largest-small claims);
      ruled = record {
        form = form;
        blocks = h.0;
        lows = i.0;
        order = j.0;
        two = k.0;
        exit = l.0;
        edges = m.0;
        targets = n.0;
      };
      entered = record { fit = o.0; last = q.0; named = r.0 };
    }

-- behind the header that was read
pub read-ruled : (s : List ℕ) → bounded_refusal s ≡ 0 → {h : Heading} → h ≡ heading s → Ruled h s
read-ruled s ok q = subst (λ (h : Heading). Ruled h s) (sym q) (clauses s ok).ruled

-- copies each of which stands before the next rise
rising-from : (f : ℕ → Copy) (k n : ℕ) → ((i : ℕ) → n ≤ i → suc i < n + k → before (f i) (f (suc i)) ≡ true) → Rising (map f (from n k))
unfolding Rising from
rising-from f zero n h = tt
rising-from f (suc zero) n h = (λ d m. absurd (Memᴰ.not-nil m), tt)
rising-from f (suc (suc k)) n h =
    let r = rising-from f (suc k) (suc n) (λ i p q. h i (omega arith) (omega arith)) in
    let b = h n (omega arith) (omega arith) in
    let first : (d : Copy) → Memᴰ d (map f (from (suc n) (suc k))) → before (f n) d ≡ true
    = λ d m. ⊎_elim (λ e. subst (λ (x : Copy). before (f n) x ≡ true) (sym e) b) (λ l. before-trans (f n) (f (suc n)) d b (r.0 d l))
    (Memᴰ.cases_cons m) in
    (first, r)

-- THE RULE'S CLAUSES GIVE ROWS THAT FIT

equal_is : (xs ys : List ℕ) → equal xs ys ≡ true → xs ≡ ys
unfolding equal
equal_is [] [] e = refl
equal_is [] (y ∷ ys) e = absurd (let z : ◌≡◌ {A = ℕ} 0 1 = cc in omega arith)
equal_is (x ∷ xs) [] e = absurd (let z : ◌≡◌ {A = ℕ} 0 1 = cc in omega arith)
equal_is (x ∷ xs) (y ∷ ys) e =
    let p = and-e (eqb x y) (equal xs ys) e in
    ap₂ (λ a b. a ∷ b) (eqb-true x y p.0) (equal_is xs ys p.1)

-- the i-th of the numbers from a on
chosen-from : (k a i x : ℕ) → chosen (from a k) (suc i) ≡ some x → x ≡ a + i
unfolding chosen from
chosen-from zero a i x e = absurd (none-ne-some x e)
chosen-from (suc k) a zero x e = let p : a ≡ x = some-injective a x e in omega arith
chosen-from (suc k) a (suc i) x e = let p = chosen-from k (suc a) i x e in omega arith

-- COPIES IN ORDER, of blocks from 1 on: those of block 1 are the first ones
module _ (h : Heading) (s : List ℕ) (B : bad_blocks h s ≡ false) (O : bad_copy_order h s ≡ false) where
  pub in_order : (i : ℕ) → 1 ≤ i → suc i < 1 + h.copies → before (copy_at h s i) (copy_at h s (suc i)) ≡ true
  unfolding bad_copy_order
  in_order i p q =
      let m = from-i (h.copies - 1) 1 i p (omega arith) in
      let f = any_false (λ i. not (before (copy_at h s i) (copy_at h s (suc i)))) (from 1 (h.copies - 1)) O m in
      not-false (before (copy_at h s i) (copy_at h s (suc i))) f

  pub block-above : (i : ℕ) → 1 ≤ i → i ≤ h.copies → 1 ≤ block_at h s i
  unfolding bad_blocks
  block-above i p q =
      (inside_of 1 most_blocks (block_at h s i)
      (any_false (λ i. outside 1 most_blocks (block_at h s i)) (from 1 h.copies) B (from-i h.copies 1 i p (omega arith)))).0

  abbrev is_start : ℕ → Bool
  is_start i = eqb (block_at h s i) 1

  pub ordered-front : copies_of h s 1 ≡ from 1 (start_count h s)
  unfolding copies_of start_count copy_at
  ordered-front = keep-front (λ i. eqb (block_at h s i) 1) h.copies 1 (λ y p l e.
      let b = block-above y p (omega arith) in
      let z = eqb-true (block_at h s (suc y)) 1 e in
      eq-eqb (block_at h s y) 1 (⊎_elim (λ q. omega arith) (λ q. omega (arith, q.0))
      (before-cases (copy_at h s y) (copy_at h s (suc y)) (in_order y p (omega arith)))))

  pub ordered-in : (i : ℕ) → 1 ≤ i → i ≤ h.copies → block_at h s i ≡ 1 → i ≤ start_count h s
  unfolding copies_of
  ordered-in i p q e =
      let k = keep-i is_start (from 1 h.copies) (from-i h.copies 1 i p (omega arith)) (eq-eqb (block_at h s i) 1 e) in
      omega (arith, from-e (start_count h s) 1 i (subst (Memᴰ i) ordered-front k))

  pub ordered-out : (i : ℕ) → 1 ≤ i → i ≤ start_count h s → (i ≤ h.copies) × (block_at h s i ≡ 1)
  unfolding copies_of
  ordered-out i p q =
      let k = keep-e is_start (from 1 h.copies) (subst (Memᴰ i) (sym ordered-front) (from-i (start_count h s) 1 i p (omega arith))) in
      (omega (arith, from-e h.copies 1 i k.0), eqb-true (block_at h s i) 1 k.1)

  pub ordered-most : start_count h s ≤ h.copies
  ordered-most = go (ℕ_discrete (start_count h s) 0)
    where
      go : Dec (start_count h s ≡ 0) → start_count h s ≤ h.copies
      go (yes z) = omega arith
      go (no z) = (ordered-out (start_count h s) (omega arith) (omega arith)).0

module _ (h : Heading) (s : List ℕ) (C : Ruled h s) where
  -- following the chains meets the edges 1 to F
  pub met-is : each (chain_at h s) (from 1 h.copies) ≡ from 1 h.edges
  unfolding bad_edge_order
  met-is = equal_is _ _ (not-false _ C.edges)

  -- so a chain stays inside
  pub chain-inside : {i e : ℕ} → 1 ≤ i → i ≤ h.copies → e ≡ first_at h s i → Inside (next_at h s) h.edges (suc h.edges) e
  unfolding chain_at
  chain-inside {i} p q f =
      let m = from-i h.copies 1 i p (omega arith) in
      rw f (record {
        is-inside = λ x k.
            omega (arith, from-e h.edges 1 x (subst (Memᴰ x) met-is (each-i (chain_at h s) (from 1 h.copies) m k)));
      })

  pub rows-length : length (rows h s) ≡ h.copies
  unfolding rows
  rows-length = length-map (from 1 h.copies) (row_at h s) ∙ from-length h.copies 1

  -- the sheet is written from its rows
  were : CopiesWere h s h.copies 1 0 h.edges
  were = copies-were h s h.copies 1 0 h.edges (omega arith) met-is (omega arith) (omega (arith, C.form.size)) (omega (arith, C.form.size))

  pub laid_out : Laid h s (rows h s)
  unfolding rows
  laid_out =
      let rs = map (row_at h s) (from 1 h.copies) in
      let a : h.records + 3 * (1 - 1) + 3 * h.copies ≡ edge_place h s 1 = omega arith in
      let b : edge_place h s 1 + 2 * h.edges ≡ length s = omega (arith, C.form.size) in
      let c : h.records + 3 * (1 - 1) ≡ h.records = omega arith in
      let z : drop (edge_place h s 1 + 2 * h.edges) s ≡ [] = rw b (drop-length s) in
      let edges : drop (edge_place h s 1) s ≡ edge_words 1 rs
      = were.edges ∙ ap (λ (l : List ℕ). edge_words 1 rs ++ l) z ∙ append-nil (edge_words 1 rs) in
      let records : drop h.records s ≡ copy_words 1 rs ++ edge_words 1 rs
      = ap (λ (n : ℕ). drop n s) (sym c) ∙ were.copies ∙ ap (λ (l : List ℕ). copy_words 1 rs ++ l) (ap (λ (n : ℕ). drop n s) a ∙ edges) in
      record {
        front = take h.records s;
        words = sym (take-append-drop h.records s) ∙ ap (λ (l : List ℕ). take h.records s ++ l) records;
        records = sym (length-take-le h.records s (omega (arith, C.form.size)));
        copies = sym rows-length;
        edges = sym were.number;
      }

  -- a row is what the sheet has at its place
  row_is : (i : ℕ) (r : Row) → chosen (rows h s) i ≡ some r → Memᴰ i (from 1 h.copies) × (row_at h s i ≡ r)
  unfolding rows
  row_is zero r q = absurd (omega (arith, chosen-le (rows h s) zero r q))
  row_is (suc i) r q =
      let l = chosen-le (rows h s) (suc i) r q in
      let m = from-i h.copies 1 (suc i) l.0 (omega (arith, l.1, rows-length)) in
      (m, go (chosen (from 1 h.copies) (suc i)) refl (sym (chosen-map (row_at h s) (from 1 h.copies) (suc i)) ∙ q))
    where
      go : (o : Option ℕ) → chosen (from 1 h.copies) (suc i) ≡ o → Option.map (row_at h s) o ≡ some r → row_at h s (suc i) ≡ r
      go none e p = absurd (none-ne-some r p)
      go (some x) e p =
          let z : suc i ≡ x = omega (arith, chosen-from h.copies 1 i x e) in
          ap (row_at h s) z ∙ some-injective _ r p

  row_here : (i : ℕ) → Memᴰ i (from 1 h.copies) → chosen (rows h s) i ≡ some (row_at h s i)
  row_here i m =
      let l = from-e h.copies 1 i m in
      let r = chosen-some (rows h s) i l.0 (omega (arith, rows-length)) in
      r.1 ∙ ap some (sym (row_is i r.0 r.1).1)

  -- one copy of a block
  pub once : (v : ℕ) → length (copies_of h s v) ≡ 1 → Once v (rows h s)
  unfolding copies_of row_at copy_at
  once v e = go (copies_of h s v) refl e
    where
      go : (l : List ℕ) → copies_of h s v ≡ l → length l ≡ 1 → Once v (rows h s)
      go [] q p = absurd (omega arith)
      go (x ∷ y ∷ l) q p = absurd (omega arith)
      go (x ∷ []) q p =
          let test : ℕ → Bool = λ i. eqb (block_at h s i) v in
          let m = keep-e test (from 1 h.copies) (subst (Memᴰ x) (sym q) (Memᴰ.head refl)) in
          record {
            at = x;
            row = row_at h s x;
            here = row_here x m.0;
            is = eqb-true (block_at h s x) v m.1;
            alone = λ i r c b.
                let t = row_is i r c in
                let f : block_at h s i ≡ v = ap (λ (r : Row). r.copy.block) t.1 ∙ b in
                Memᴰ.eq_of_singleton (subst (Memᴰ i) q (keep-i test (from 1 h.copies) t.0 (eq-eqb _ v f)));
          }

  -- the copies of block 1 are the first ones
  pub starts-front : copies_of h s 1 ≡ from 1 (start_count h s)
  starts-front = ordered-front h s C.blocks C.order

  pub starts-most : start_count h s ≤ h.copies
  starts-most = ordered-most h s C.blocks C.order

  starts_fit : Starts (start_count h s) (rows h s)
  unfolding row_at copy_at
  starts_fit = record {
    most = omega (arith, starts-most, rows-length);
    is = λ i r c l.
        let t = row_is i r c in
        sym (ap (λ (r : Row). r.copy.block) t.1) ∙ (ordered-out h s C.blocks C.order i (from-e h.copies 1 i t.0).0 l).1;
    only = λ i r c b.
        let t = row_is i r c in
        let m = from-e h.copies 1 i t.0 in
        ordered-in h s C.blocks C.order i m.0 (omega arith) (ap (λ (r : Row). r.copy.block) t.1 ∙ b);
  }

  pub row_fits : (i : ℕ) → Memᴰ i (from 1 h.copies) → RowFits (length (rows h s)) (start_count h s) h.largest (row_at h s i)
  unfolding row_at copy_at bad_blocks bad_lows copies_of bad_exit bad_target_words targets_at chain_at follow
  row_fits i m =
      record {
        block = inside_of 1 most_blocks (block_at h s i) (any_false (λ i. outside 1 most_blocks (block_at h s i)) (from 1 h.copies) C.blocks m);
        low = ltb-false h.largest (low_at h s i) (any_false (λ i. ltb h.largest (low_at h s i)) (from 1 h.copies) C.lows m);
        exit = λ e.
            let k = keep-i (λ i. eqb (block_at h s i) 2) (from 1 h.copies) m (eq-eqb (block_at h s i) 2 e) in
            let t = not-false (eqb (low_at h s i) 0 && eqb (first_at h s i) 0)
            (any_false (λ i. not (eqb (low_at h s i) 0 && eqb (first_at h s i) 0)) (copies_of h s 2) C.exit k) in
            let p = and-e (eqb (low_at h s i) 0) (eqb (first_at h s i) 0) t in
            let f : first_at h s i ≡ 0 = eqb-true (first_at h s i) 0 p.1 in
            (eqb-true (low_at h s i) 0 p.0, ap (λ (x : ℕ). map (target_at h s) (follow (next_at h s) (suc h.edges) x)) f);
        targets = λ t k n.
            let o = Memᴰ.of_map (target_at h s) (chain_at h s i) k in
            let e : Memᴰ o.0 (from 1 h.edges)
            = subst (Memᴰ o.0) met-is (each-i (chain_at h s) (from 1 h.copies) m o.1) in
            target t o.0 o.2 e n;
      }
    where
      target : (t e : ℕ) → target_at h s e ≡ t → Memᴰ e (from 1 h.edges) → t ≢ 0 → (suc (start_count h s) ≤ t) × (t ≤ length (rows h s))
      target t e q m n =
          let f = any_false (λ e. not (eqb (target_at h s e) 0) && outside (suc (start_count h s)) h.copies (target_at h s e)) (from 1 h.edges)
          C.targets m in
          let z : eqb (target_at h s e) 0 ≡ false = ne_eqb _ 0 (λ x. n (sym q ∙ x)) in
          let l = inside_of (suc (start_count h s)) h.copies (target_at h s e) (rw z at f) in
          omega (arith, l, q, rows-length)

  map-copy : (is : List ℕ) → map (λ (r : Row). r.copy) (map (row_at h s) is) ≡ map (copy_at h s) is
  unfolding row_at
  map-copy [] = refl
  map-copy (i ∷ is) = ap (λ (l : List Copy). copy_at h s i ∷ l) (map-copy is)

  rises : Rising (map (λ (r : Row). r.copy) (rows h s))
  unfolding rows
  rises = rw (map-copy (from 1 h.copies)) (rising-from (copy_at h s) h.copies 1 (in_order h s C.blocks C.order))

  pub one_of : (v : ℕ) → not_one_of h s v ≡ false → Once v (rows h s)
  unfolding not_one_of
  one_of v e = once v (eqb-true _ 1 (not-false (eqb (length (copies_of h s v)) 1) e))

  pub rows_fit : RowsFit (start_count h s) h.largest (rows h s)
  rows_fit = record {
    starts = starts_fit;
    rise = rises;
    two = one_of 2 C.two;
    row = λ i r q. let t = row_is i r q in subst (RowFits (length (rows h s)) (start_count h s) h.largest) t.1 (row_fits i t.0);
  }

  -- what the entries name
  module _ (bs es : List ℕ) (E : Entered h s bs es) where
    pub entry-names : (j : ℕ) → 1 ≤ j → j ≤ length bs → nth es j ≢ 0
        → (1 ≤ nth es j) × (nth es j ≤ start_count h s) × (low_at h s (nth es j) ≤ nth bs j)
    unfolding bad_entries entry_fits
    entry-names j p q n =
        let e = nth es j in
        let t = not-false _ (any_false (λ k. not (entry_fits h s (nth bs k) (nth es k))) (from 1 (length bs)) E.fit
        (from-i (length bs) 1 j p (omega arith))) in
        let u = ⊎_elim (λ z. absurd (n (eqb-true e 0 z))) (λ x. x) (or-e (eqb e 0) _ t) in
        let a = and-e (not (outside 1 h.copies e)) _ u in
        let b = and-e (eqb (block_at h s e) 1) _ a.1 in
        let i = inside_of 1 h.copies e (not-true _ a.0) in
        (i.0, ordered-in h s C.blocks C.order e i.0 i.1 (eqb-true _ 1 b.0), ltb-false (nth bs j) (low_at h s e) (not-true _ b.1))

    pub start-named : (i : ℕ) → 1 ≤ i → i ≤ start_count h s → Memᴰ i es
    unfolding unnamed_start
    start-named i p q =
        member-e i es (not-false (member i es) (any_false (λ i. not (member i es)) (copies_of h s 1) E.named
        (subst (Memᴰ i) (sym starts-front) (from-i (start_count h s) 1 i p (omega arith)))))

    pub last_some : last_of es ≢ 0
    unfolding no_last_entry
    last_some z = not-both (eq-eqb (last_of es) 0 z) E.last

    entries_fit : EntriesFit bs es (start_count h s) (rows h s)
    unfolding row_at copy_at
    entries_fit = record {
      fit = λ j p q n.
          let f = entry-names j p q n in
          (f.1, λ r c. let t = row_is (nth es j) r c in omega (arith, f.2, ap (λ (r : Row). r.copy.low) t.1));
      last = last_some;
      named = start-named;
    }

-- RULE 11 AND ROWS

-- a sheet that is written from rows that fit
pub record Written (s : List ℕ) : Type 0 where
  pub preface : Preface
  pub rows : List Row
  pub words : s ≡ sheet_words preface rows
  pub fits : Fits preface rows

written : (s : List ℕ) → Clauses s → Written s
unfolding sheet_words laid_out heading
written s C =
    let h = heading s in
    let R = C.ruled in
    let L = laid_out h s R in
    let p = preface_in s in
    let front : L.front ≡ heading_words (is_second s) (budgets_in s) (entries_in s) (length (rows h s)) (edge_count (rows h s))
    = header-was s C.long C.there ∙ ap₂ (λ c f. heading_words (is_second s) (budgets_in s) (entries_in s) c f) L.copies L.edges in
    record {
      preface = p;
      rows = rows h s;
      words = L.words ∙ ap (λ (l : List ℕ). l ++ record_words (rows h s)) front;
      fits = record {
        few = omega (arith, R.form.copies, L.copies);
        edges = omega (arith, R.form.edges, L.edges);
        proper = read-proper s C.long C.there;
        claims = C.claims;
        starts = start_count h s;
        rows = subst (λ (b : ℕ). RowsFit (start_count h s) b (rows h s)) (largest-is s) (rows_fit h s R);
        entries = entries_fit h s R (budgets_in s) (entries_in s) C.entered;
      };
    }

pub rule11 : (s : List ℕ) → (bounded_refusal s ≡ 0) ↔ Written s
rule11 s = (
  λ e. written s (clauses s e),
  λ W. subst (λ (l : List ℕ). bounded_refusal l ≡ 0) (sym W.words) (fits-rule W.preface W.rows W.fits),
)
