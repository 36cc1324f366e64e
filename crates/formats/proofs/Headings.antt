-- The header of a bounded sheet, in both versions: what is written is read back, and what is read is what was written.
-- Rests on specs Versions and BoundedSheet.
use mathlib.Core.Path.{◌≡◌, refl, sym, ap, subst, ◌∙◌}
use mathlib.Core.Bool.{Bool, true, false}
use mathlib.Core.List.{List, [], ◌∷◌, ◌++◌}
use Prim.Native.Nat.{ℕ, ◌+◌, ◌*◌, ◌≤◌}
use native.Mathlib.Omega.{arith}
use borrow.Author.Tests.{ne_eqb, eqb-true}
use lib.ListN.{length, take, drop, length-append, length-drop}
use lib.Seq.{take-append-le, drop-append-le, take-append_seam, drop-append_seam, drop-drop, take-add, length-take-le}
use Rattle.base.specs.Lists.{last_of}
use Rattle.formats.specs.Words.{word}
use Rattle.formats.specs.Versions.{is_second, budgets_at, budget_count, budgets_in, largest_in}
use Rattle.formats.specs.BoundedSheet.{Row, edge_count, record_words, Preface, heading_words, sheet_words, heading_of, heading, entries_in, preface_in}

-- a preface that can be written: an entry for each budget; in the first version one budget, whose entry is 1
pub record Proper (p : Preface) : Type 0 where
  pub same : length p.entries ≡ length p.budgets
  pub first : p.second ≡ false → (length p.budgets ≡ 1) × (p.entries ≡ 1 ∷ [])

-- one number is the last of its list
only : (bs : List ℕ) → length bs ≡ 1 → last_of bs ∷ [] ≡ bs
unfolding last_of
only [] e = absurd (omega arith)
only (b ∷ []) e = refl
only (b ∷ c ∷ bs) e = absurd (omega arith)

-- WHAT A WRITTEN HEADER READS AS
pub record HeaderReads (p : Preface) (rs : List Row) : Type 0 where
  pub second : is_second (sheet_words p rs) ≡ p.second
  pub budgets : budgets_in (sheet_words p rs) ≡ p.budgets
  pub entries : entries_in (sheet_words p rs) ≡ p.entries
  pub counts : heading (sheet_words p rs)
      ≡ heading_of (length (heading_words p.second p.budgets p.entries (length rs) (edge_count rs))) (length rs) (edge_count rs)
      (last_of p.budgets)

abbrev preface_of : Bool → List ℕ → List ℕ → Preface
preface_of v bs es = record { second = v; budgets = bs; entries = es }

reads_second : (bs es : List ℕ) (rs : List Row) → length es ≡ length bs → HeaderReads (preface_of true bs es) rs
unfolding sheet_words heading_words heading is_second budgets_at budget_count budgets_in entries_in
reads_second bs es rs same =
    let rest = record_words rs in
    let both : length (bs ++ es) ≡ 2 * length bs = length-append bs es ∙ omega arith in
    let budgets : take (length bs) ((bs ++ es) ++ rest) ≡ bs
    = take-append-le (length bs) (bs ++ es) rest (omega arith) ∙ take-append_seam bs es in
    let behind : drop (length bs) ((bs ++ es) ++ rest) ≡ es ++ rest
    = drop-append-le (length bs) (bs ++ es) rest (omega arith) ∙ ap (λ (l : List ℕ). l ++ rest) (drop-append_seam bs es) in
    let entries : take (length bs) (drop (4 + length bs) (0 ∷ length rs ∷ edge_count rs ∷ length bs ∷ ((bs ++ es) ++ rest))) ≡ es
    = ap (take (length bs)) (sym (drop-drop (length bs) 4 _) ∙ behind)
    ∙ ap (λ (n : ℕ). take n (es ++ rest)) (sym same) ∙ take-append_seam es rest in
    let size : 4 + 2 * length bs ≡ length (heading_words true bs es (length rs) (edge_count rs)) = omega (arith, both) in
    record {
      second = refl;
      budgets = budgets;
      entries = entries;
      counts = λ i. heading_of (size i) (length rs) (edge_count rs) (last_of (budgets i));
    }

reads_first : (bs es : List ℕ) (rs : List Row) → 1 ≤ length rs → length bs ≡ 1 → es ≡ 1 ∷ [] → HeaderReads (preface_of false bs es) rs
unfolding sheet_words heading_words heading is_second budgets_at budget_count budgets_in entries_in
reads_first bs es rs some one entry =
    let s = sheet_words (preface_of false bs es) rs in
    let v : is_second s ≡ false = ne_eqb (length rs) 0 (λ e. omega arith) in
    let budgets : budgets_in s ≡ bs = rw (v, budgets_in, budgets_at, budget_count) (only bs one) in
    record {
      second = v;
      budgets = budgets;
      entries = rw (v, entries_in) (sym entry);
      counts = rw (v, heading) (ap (λ (l : List ℕ). heading_of 3 (length rs) (edge_count rs) (last_of l)) budgets);
    }

pub header-reads : (p : Preface) (rs : List Row) → Proper p → 1 ≤ length rs → HeaderReads p rs
header-reads p rs P some = go p.second refl
  where
    go : (v : Bool) → p.second ≡ v → HeaderReads p rs
    go true e = subst (λ (v : Bool). HeaderReads (preface_of v p.budgets p.entries) rs) (sym e) (reads_second p.budgets p.entries rs P.same)
    go false e =
        let q = P.first e in
        subst (λ (v : Bool). HeaderReads (preface_of v p.budgets p.entries) rs) (sym e)
        (reads_first p.budgets p.entries rs some q.0 q.1)

-- THE WORDS OF A HEADER are what was written of what it reads as
was-second : (s : List ℕ) → is_second s ≡ true → 4 + 2 * word s 3 ≤ length s
    → take (4 + 2 * word s 3) s
    ≡ heading_words true (take (word s 3) (drop 4 s)) (take (word s 3) (drop (4 + word s 3) s)) (word s 1) (word s 2)
unfolding is_second heading_words
was-second [] e l = absurd (omega arith)
was-second (a ∷ []) e l = absurd (omega arith)
was-second (a ∷ b ∷ []) e l = absurd (omega arith)
was-second (a ∷ b ∷ c ∷ []) e l = absurd (omega arith)
was-second (a ∷ b ∷ c ∷ d ∷ l) e p =
    let s : List ℕ = a ∷ b ∷ c ∷ d ∷ l in
    let z : a ≡ 0 = eqb-true a 0 e in
    let n : length (take d l) ≡ d = length-take-le d l (omega arith) in
    let twice : take (2 * d) l ≡ take d l ++ take d (drop d l) = (let q : 2 * d ≡ d + d = omega arith in rw q (take-add d d l)) in
    let entries : drop d l ≡ drop (4 + d) s = drop-drop d 4 s in
    take-add 4 (2 * d) s
    ∙ (λ i. z i ∷ b ∷ c ∷ sym n i ∷ (twice ∙ ap (λ (m : List ℕ). take d l ++ take d m) entries) i)

was-first : (s : List ℕ) → 3 ≤ length s → take 3 s ≡ heading_words false (take 1 (drop 2 s)) [] (word s 0) (word s 1)
unfolding heading_words last_of
was-first [] l = absurd (omega arith)
was-first (a ∷ []) l = absurd (omega arith)
was-first (a ∷ b ∷ []) l = absurd (omega arith)
was-first (a ∷ b ∷ c ∷ l) p = refl

pub header-was : (s : List ℕ) → 3 ≤ length s → (heading s).records ≤ length s
    → take (heading s).records s ≡ heading_words (is_second s) (budgets_in s) (entries_in s) (heading s).copies (heading s).edges
unfolding heading budgets_at budget_count budgets_in entries_in heading_words
header-was s long l = go (is_second s) refl
  where
    go : (v : Bool) → is_second s ≡ v
        → take (heading s).records s ≡ heading_words (is_second s) (budgets_in s) (entries_in s) (heading s).copies (heading s).edges
    go true e =
        let r : (heading s).records ≡ 4 + 2 * word s 3 = rw (e, heading) refl in
        rw (e, heading, budgets_in, budgets_at, budget_count, entries_in) (was-second s e (omega (arith, r)))
    go false e = rw (e, heading, budgets_in, budgets_at, budget_count, entries_in) (was-first s long)

-- the largest budget of the header is that of the sheet
pub largest-is : (s : List ℕ) → (heading s).largest ≡ largest_in s
unfolding heading
largest-is s = go (is_second s) refl
  where
    go : (v : Bool) → is_second s ≡ v → (heading s).largest ≡ largest_in s
    go true e = rw (e, heading)
    go false e = rw (e, heading)

-- a header that is there has an entry for each budget, in the first version one, which is 1
pub read-proper : (s : List ℕ) → 3 ≤ length s → (heading s).records ≤ length s → Proper (preface_in s)
unfolding heading budgets_at budget_count budgets_in entries_in
read-proper s long l = record { same = go (is_second s) refl; first = one }
  where
    one : is_second s ≡ false → (length (budgets_in s) ≡ 1) × (entries_in s ≡ 1 ∷ [])
    one e =
        rw (e, budgets_in, budgets_at, budget_count, entries_in) (
          length-take-le 1 (drop 2 s) (omega (arith, length-drop 2 s)),
          refl,
        )

    go : (v : Bool) → is_second s ≡ v → length (entries_in s) ≡ length (budgets_in s)
    go true e =
        let r : (heading s).records ≡ 4 + 2 * word s 3 = rw (e, heading) refl in
        let n = word s 3 in
        rw (e, budgets_in, budgets_at, budget_count, entries_in)
        (length-take-le n (drop (4 + n) s) (omega (arith, r, length-drop (4 + n) s))
        ∙ sym (length-take-le n (drop 4 s) (omega (arith, r, length-drop 4 s))))
    go false e = let q = one e in omega (arith, q.0, ap length q.1)
