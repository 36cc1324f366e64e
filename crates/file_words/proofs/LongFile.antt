-- A file longer than any row that 3 lets pass is refused by its header and its length alone, so its first words are enough; said for any condition
-- that is numbered 3. Rests on base Truth, Lists and Orders, formats Limits, Versions, File and GraphSheet, specs Longer, Filled.
use mathlib.Core.Path.{◌≡◌, refl, sym, ap, ap₂, ◌∙◌}
use mathlib.Core.Bool.{Bool, true, false, ◌||◌, not}
use mathlib.Core.List.{List, [], ◌∷◌, ◌++◌}
use Prim.Native.Nat.{ℕ, ◌+◌, ◌*◌, ◌/◌, ◌≤◌, ◌<◌}
use native.Mathlib.Omega.{arith}
use borrow.Author.Tests.{ltb-true, ltb-false, le-ltb, ne_eqb}
use lib.Dec.{eqb, ltb}
use lib.ListN.{length, get_or, take}
use lib.Seq.{get_or-take, length-take-le, take_all}
use Rattle.base.specs.Checks.{Order, refused, outside}
use Rattle.base.proofs.Truth.{or-false}
use Rattle.base.proofs.Lists.{from-map}
use Rattle.base.proofs.Orders.{pick, tested, inside_of}
use Rattle.formats.specs.Limits.{least_words, least_blocks, most_blocks, least_edges, most_edges, word_limit}
use Rattle.formats.specs.Words.{word}
use Rattle.formats.specs.Versions.{is_second}
use Rattle.formats.specs.File.{word_of, words_of}
use Rattle.formats.specs.GraphSheet.{Header, header, sheet_length, short, bad_counts, bad_length, condition, length_order, counts_order}
use Rattle.file_words.specs.Longer.{longest_header, longer_sheet}
use Rattle.file_words.proofs.Filled.{words-length}

-- a header is no longer than words can say
header-most : (w : List ℕ) → word w 3 < word_limit → (header w).records ≤ longest_header
unfolding header
header-most w n = go (is_second w) refl
  where
    go : (v : Bool) → is_second w ≡ v → (header w).records ≤ longest_header
    go true e = rw (e, header) (omega arith)
    go false e = rw (e, header) (omega arith)

-- and a graph sheet that passed 2 is shorter than this
pub graph-most : (w : List ℕ) → word w 3 < word_limit → bad_counts (header w) w ≡ false → sheet_length (header w) < longer_sheet
unfolding bad_counts
graph-most w n e =
    let h = header w in
    let p = or-false (outside least_blocks most_blocks h.blocks) (outside least_edges most_edges h.edges) e in
    let blocks = inside_of least_blocks most_blocks h.blocks p.0 in
    let edges = inside_of least_edges most_edges h.edges p.1 in
    omega (arith, header-most w n)

-- the counts go by the first three words
abbrev bad-pair : ℕ → ℕ → Bool
bad-pair n m = outside least_blocks most_blocks n || outside least_edges most_edges m

same-counts : (v w : List ℕ) → word v 0 ≡ word w 0 → word v 1 ≡ word w 1 → word v 2 ≡ word w 2 → bad_counts (header v) v ≡ bad_counts (header w) w
unfolding bad_counts header is_second
same-counts v w p q r = go (is_second w) refl
  where
    version : is_second v ≡ is_second w
    version = ap (λ (x : ℕ). eqb x 0) p

    go : (b : Bool) → is_second w ≡ b → bad_counts (header v) v ≡ bad_counts (header w) w
    go true e = rw (version ∙ e, e, header) (ap₂ bad-pair q r)
    go false e = rw (version ∙ e, e, header) (ap₂ bad-pair p q)

long-enough : (w : List ℕ) → least_words ≤ length w → short w ≡ false
unfolding short
long-enough w l = le-ltb (length w) least_words l

-- a word of a file is read from its two bytes
word-is : (bs : List ℕ) (i : ℕ) → i < length bs / 2 → word (words_of bs) i ≡ word_of bs i
unfolding words_of
word-is bs i l = let p : 0 + i ≡ i = omega arith in from-map (word_of bs) (length bs / 2) 0 i l ∙ ap (word_of bs) p

-- n words whose first are below the limit make 3, where 2 is passed
abbrev pub Longer : (Header → List ℕ → Bool) → ℕ → Type 0
Longer bad n = (w : List ℕ) → n ≤ length w → ((i : ℕ) → i < n → word w i < word_limit) → bad_counts (header w) w ≡ false
    → bad (header w) w ≡ true

-- AN ORDER that begins with 1, 2 and 3
module _ (bad : Header → List ℕ → Bool) (rest : Order (List ℕ)) where
  abbrev pub sized : Order (List ℕ)
  sized = length_order ++ counts_order ++ (condition 3 bad ∷ []) ++ rest

  -- a row that long has the answer 2 or 3, by its counts
  long-row : (n : ℕ) → 4 ≤ n → Longer bad n → (w : List ℕ) → n ≤ length w → ((i : ℕ) → i < n → word w i < word_limit)
      → refused sized w ≡ pick (bad_counts (header w) w) 2 3
  long-row n four long w l fits = go (bad_counts (header w) w) refl
    where
      not_short : short w ≡ false
      not_short = long-enough w (omega arith)

      go : (b : Bool) → bad_counts (header w) w ≡ b → refused sized w ≡ pick b 2 3
      go true e = tested 1 short _ w not_short (tested 2 _ _ w e refl)
      go false e = tested 1 short _ w not_short (tested 2 _ _ w e (tested 3 _ _ w (long w l fits e) refl))

  module _ (n : ℕ) (four : 4 ≤ n) (long : Longer bad n) where
    -- as much as is read of a long file, whose bytes are below 256
    module _ (bs : List ℕ) (l : 2 * n ≤ length bs) (bytes : (i : ℕ) → get_or (take (2 * n) bs) i 0 < 256) where
      abbrev front : List ℕ
      front = take (2 * n) bs

      front_length : length front ≡ 2 * n
      front_length = length-take-le (2 * n) bs l

      same_byte : (j : ℕ) → j < 2 * n → get_or bs j 0 ≡ get_or front j 0
      same_byte j q = sym (get_or-take (2 * n) bs j 0 q)

      same_word : (i : ℕ) → i < n → word (words_of bs) i ≡ word (words_of front) i
      unfolding word_of
      same_word i q =
          word-is bs i (omega arith)
          ∙ ap₂ (λ (x y : ℕ). x + 256 * y) (same_byte (2 * i) (omega arith)) (same_byte (2 * i + 1) (omega arith))
          ∙ sym (word-is front i (omega (arith, front_length)))

      word_fits : (i : ℕ) → i < n → word (words_of front) i < word_limit
      unfolding word_of
      word_fits i q = omega (arith, word-is front i (omega (arith, front_length)), bytes (2 * i), bytes (2 * i + 1))

      long-answer : refused sized (words_of bs) ≡ pick (bad_counts (header (words_of bs)) (words_of bs)) 2 3
      long-answer =
          long-row n four long (words_of bs) (omega (arith, words-length bs)) (λ i q. omega (arith, same_word i q, word_fits i q))

      -- a program that reads no more of a file has the answer of the whole file, and no row is accepted
      long-file : (refused sized (words_of bs) ≡ refused sized (words_of front)) × (refused sized (words_of bs) ≡ 0 → ⊥)
      long-file =
          let c = same-counts (words_of bs) (words_of front) (same_word 0 (omega arith)) (same_word 1 (omega arith)) (same_word 2 (omega arith)) in
          let f = long-row n four long (words_of front) (omega (arith, words-length front, front_length)) word_fits in
          (long-answer ∙ ap (λ (b : Bool). pick b 2 3) c ∙ sym f, λ z. above_zero (bad_counts (header (words_of bs)) (words_of bs)) (sym long-answer ∙ z))
        where
          above_zero : (b : Bool) → pick b 2 3 ≡ 0 → ⊥
          above_zero true e = let q : ◌≡◌ {A = ℕ} 2 0 = e in omega arith
          above_zero false e = let q : ◌≡◌ {A = ℕ} 3 0 = e in omega arith

    -- WHAT GOES BY THE REFUSAL of a refused row is the same for a file and for its first words, whose bytes are below 256
    pub first-words : {A : Type 0} (f : List ℕ → A)
        → ((v w : List ℕ) → refused sized v ≡ refused sized w → (refused sized v ≡ 0 → ⊥) → f v ≡ f w)
        → (fs : List ℕ) → ((i : ℕ) → get_or (take (2 * n) fs) i 0 < 256) → f (words_of (take (2 * n) fs)) ≡ f (words_of fs)
    first-words f same fs bytes = go (ltb (length fs) (2 * n)) refl
      where
        go : (b : Bool) → ltb (length fs) (2 * n) ≡ b → f (words_of (take (2 * n) fs)) ≡ f (words_of fs)
        go true e =
            let l = ltb-true (length fs) (2 * n) e in
            ap (λ (bs : List ℕ). f (words_of bs)) (take_all (2 * n) fs (omega arith))
        go false e =
            let r = long-file fs (ltb-false (length fs) (2 * n) e) bytes in
            sym (same (words_of fs) (words_of (take (2 * n) fs)) r.0 r.1)

-- GRAPH SHEETS
pub graph-longer : Longer bad_length longer_sheet
unfolding bad_length
graph-longer w l fits e =
    ap not (ne_eqb (length w) (sheet_length (header w)) (λ q. omega (arith, graph-most w (fits 3 (omega arith)) e)))
