-- Every word of a sheet that is written from rows that fit is at most the largest limit, so it fits 16 bits.
-- Rests on base Lists and Numbers, specs BoundedSheet, Budgets, RuleKept.
use mathlib.Core.Path.{◌≡◌, refl, sym, ◌∙◌}
use mathlib.Core.Bool.{Bool, true, false}
use mathlib.Core.Logic.{⊎_elim}
use mathlib.Core.List.Memᴰ
use mathlib.Core.List.{List, [], ◌∷◌, Memᴰ}
use Prim.Native.Nat.{ℕ, suc, ◌+◌, ◌≤◌, ◌<◌}
use native.Mathlib.Omega.{arith}
use native.Mathlib.Decide.{ℕ_discrete}
use lib.ListN.{length}
use Rattle.base.specs.Lists.{last_of, nth}
use Rattle.base.proofs.Lists.{choice-of}
use Rattle.base.proofs.Numbers.{nth_of}
use Rattle.formats.specs.Limits.{most_budget, most_bounded_edges, word_limit}
use Rattle.formats.specs.File.{word_of}
use Rattle.formats.specs.BoundedSheet.{Row, first_edge, edge_records, copy_words, edge_words, edge_count, Preface, heading_words, sheet_words}
use Rattle.formats.proofs.Budgets.{largest-small}
use Rattle.formats.proofs.RuleKept.{RowFits, Fits}

-- the largest word is that of two bytes 255
pub two_bytes : suc (word_of (255 ∷ 255 ∷ []) 0) ≡ word_limit
unfolding word_of
two_bytes = refl

-- words that are all at most M
module _ (M : ℕ) where
  abbrev Small : List ℕ → Type 0
  Small xs = (x : ℕ) → Memᴰ x xs → x ≤ M

  small-nil : Small []
  small-nil x m = absurd (Memᴰ.not-nil m)

  small-cons : {y : ℕ} {ys : List ℕ} → y ≤ M → Small ys → Small (y ∷ ys)
  small-cons p h x m = ⊎_elim (λ e. omega arith) (h x) (Memᴰ.cases_cons m)

  -- the numbers of a copy's edges
  first_small : (e : ℕ) (ts : List ℕ) → e + length ts ≤ suc M → first_edge e ts ≤ M
  unfolding first_edge
  first_small e [] h = omega arith
  first_small e (t ∷ ts) h = omega arith

  records-small : (e : ℕ) (ts : List ℕ) → e + length ts ≤ suc M → Small ts → Small (edge_records e ts)
  unfolding edge_records
  records-small e [] h s = small-nil
  records-small e (t ∷ ts) h s =
      small-cons (s t (Memᴰ.head refl)) (small-cons (first_small (suc e) ts (omega arith))
      (records-small (suc e) ts (omega arith) (λ x m. s x (Memᴰ.tail m))))

  -- a row of small words
  record RowSmall (r : Row) : Type 0 where
    block : r.copy.block ≤ M
    low : r.copy.low ≤ M
    targets : Small r.target_words

  copies-small : (e : ℕ) (rs : List Row) → e + edge_count rs ≤ suc M → ((r : Row) → Memᴰ r rs → RowSmall r) → Small (copy_words e rs)
  unfolding copy_words edge_count
  copies-small e [] h f = small-nil
  copies-small e (r ∷ rs) h f =
      let s = f r (Memᴰ.head refl) in
      small-cons s.block (small-cons s.low (small-cons (first_small e r.target_words (omega arith))
      (copies-small (e + length r.target_words) rs (omega arith) (λ q m. f q (Memᴰ.tail m)))))

  edges-small : (e : ℕ) (rs : List Row) → e + edge_count rs ≤ suc M → ((r : Row) → Memᴰ r rs → RowSmall r) → Small (edge_words e rs)
  unfolding edge_words edge_count
  edges-small e [] h f x m = small-nil x m
  edges-small e (r ∷ rs) h f x m =
      ⊎_elim (records-small e r.target_words (omega arith) (f r (Memᴰ.head refl)).targets x)
      (edges-small (e + length r.target_words) rs (omega arith) (λ q n. f q (Memᴰ.tail n)) x)
      (Memᴰ.append_cases (edge_records e r.target_words) m)

pub words_small : (p : Preface) (rs : List Row) → Fits p rs → (x : ℕ) → Memᴰ x (sheet_words p rs) → x ≤ most_bounded_edges
unfolding sheet_words heading_words
words_small p rs F x m =
    let M = most_bounded_edges in
    let small : (r : Row) → Memᴰ r rs → RowSmall M r = λ r m. let i = choice-of m in row r (F.rows.row _ r i.1) in
    let room : 1 + edge_count rs ≤ suc M = omega (arith, F.edges) in
    ⊎_elim (heading-small p.second x)
    (λ n. ⊎_elim (copies-small M 1 rs room small x) (edges-small M 1 rs room small x) (Memᴰ.append_cases (copy_words 1 rs) n))
    (Memᴰ.append_cases (heading_words p.second p.budgets p.entries (length rs) (edge_count rs)) m)
  where
    largest : last_of p.budgets ≤ most_budget
    largest = largest-small F.claims

    row : (r : Row) → RowFits (length rs) F.starts (last_of p.budgets) r → RowSmall most_bounded_edges r
    row r f = record {
      block = omega (arith, f.block);
      low = omega (arith, f.low, largest);
      targets = λ t m. target t (f.targets t m) (ℕ_discrete t 0);
    }
      where
        target : (t : ℕ) → ((t ≡ 0 → ⊥) → (suc F.starts ≤ t) × (t ≤ length rs)) → Dec (t ≡ 0) → t ≤ most_bounded_edges
        target t g (yes e) = omega arith
        target t g (no n) = omega (arith, g n, F.few)

    -- an entry is 0 or the number of a start copy
    entry : (e : ℕ) → Memᴰ e p.entries → e ≤ most_bounded_edges
    entry e m =
        let i = nth_of e m in
        go i.0 (ℕ_discrete e 0) (λ n. (F.entries.fit i.0 i.1 (omega (arith, i.2, F.proper.same)) (λ z. n (sym i.3 ∙ z))).0) i.3
      where
        go : (j : ℕ) → Dec (e ≡ 0) → ((e ≡ 0 → ⊥) → nth p.entries j ≤ F.starts) → nth p.entries j ≡ e → e ≤ most_bounded_edges
        go j (yes z) f q = omega arith
        go j (no z) f q = omega (arith, f z, F.rows.starts.most, F.few)

    heading-small : (v : Bool) → Small most_bounded_edges (heading_words v p.budgets p.entries (length rs) (edge_count rs))
    heading-small true =
        let M = most_bounded_edges in
        small-cons M (omega arith) (small-cons M (omega (arith, F.few)) (small-cons M (omega (arith, F.edges)) (small-cons M (omega (arith, F.claims.count))
        (λ x m. ⊎_elim (λ n. omega (arith, F.claims.small x n)) (entry x) (Memᴰ.append_cases p.budgets m)))))
    heading-small false =
        let M = most_bounded_edges in
        small-cons M (omega (arith, F.few)) (small-cons M (omega (arith, F.edges)) (small-cons M (omega (arith, largest)) (small-nil M)))

-- so each word fits 16 bits
pub words-fit : (p : Preface) (rs : List Row) → Fits p rs → (x : ℕ) → Memᴰ x (sheet_words p rs) → x < word_limit
words-fit p rs F x m = omega (arith, words_small p rs F x m)
