-- THE WORDS of the graph sheet that an operation sheet says, one by one: the header's, the pair of each block, the edges'.
-- Rests on base Lists, formats GraphSheet, specs Operations.
use mathlib.Core.Path.{◌≡◌, refl, sym, ap, ◌∙◌}
use mathlib.Core.List.{List, [], ◌∷◌, ◌++◌}
use Prim.Native.Nat.{ℕ, zero, suc, ◌+◌, ◌-◌, ◌*◌, ◌≤◌, ◌<◌}
use native.Mathlib.Omega.{arith}
use lib.ListN.{length, take, drop, length-append, length-drop, get_or-append}
use lib.Seq.{length-take-le, take-append-le, take_at, get_or-take, get_or-drop, get_or-append-add}
use Rattle.base.specs.Lists.{each, from}
use Rattle.formats.specs.Words.{word, field}
use Rattle.formats.specs.GraphSheet.{Header, sheet_length, edges_at, first_word}
use Rattle.operation_sheet.specs.Operations.{cycle_sum, block_words, graph_words}

-- TWO NUMBERS for each of n numbers from a on
module _ (f g : ℕ → ℕ) where
  abbrev pub pairs : ℕ → ℕ → List ℕ
  pairs a n = each (λ v. f v ∷ g v ∷ []) (from a n)

  pub pairs-length : (a n : ℕ) → length (pairs a n) ≡ 2 * n
  unfolding each from
  pairs-length a zero = refl
  pairs-length a (suc n) = let r = pairs-length (suc a) n in omega arith

  -- the i-th, counted from 0
  pub pairs-are : (n a i : ℕ) → i < n → (word (pairs a n) (2 * i) ≡ f (a + i)) × (word (pairs a n) (2 * i + 1) ≡ g (a + i))
  unfolding each from
  pairs-are zero a i l = absurd (omega arith)
  pairs-are (suc n) a zero l = let p : a + 0 ≡ a = omega arith in rw p (refl, refl)
  pairs-are (suc n) a (suc i) l =
      let r = pairs-are n (suc a) i (omega arith) in
      let p : a + suc i ≡ suc a + i = omega arith in
      let q₀ : 2 * suc i ≡ suc (suc (2 * i)) = omega arith in
      let q₁ : 2 * suc i + 1 ≡ suc (suc (2 * i + 1)) = omega arith in
      rw (p, q₁, q₀) r

  -- one more
  pub pairs-more : (a n : ℕ) → pairs a (n + 1) ≡ pairs a n ++ (f (a + n) ∷ g (a + n) ∷ [])
  unfolding each from
  pairs-more a zero = let p : a + 0 ≡ a = omega arith in rw p refl
  pairs-more a (suc n) =
      let p : a + suc n ≡ suc a + n = omega arith in
      let q : suc n + 1 ≡ suc (n + 1) = omega arith in
      rw (p, q) (ap (λ (l : List ℕ). f a ∷ g a ∷ l) (pairs-more (suc a) n))

-- behind any header, in a row that has room for the graph sheet
module _ (h : Header) (w : List ℕ) (room : sheet_length h ≤ length w) where
  abbrev head : List ℕ
  head = take h.records w

  abbrev blocks : List ℕ
  blocks = block_words h w h.blocks

  abbrev edges : List ℕ
  edges = take (2 * h.edges) (drop (edges_at h) w)

  pub head-length : length head ≡ h.records
  head-length = length-take-le h.records w (omega arith)

  pub front_length : length (head ++ blocks) ≡ edges_at h
  front_length = length-append head blocks ∙ omega (arith, head-length, pairs-length (cycle_sum h w) (first_word h w) 1 h.blocks)

  edges-length : length edges ≡ 2 * h.edges
  edges-length = length-take-le (2 * h.edges) (drop (edges_at h) w) (omega (arith, length-drop (edges_at h) w))

  pub words-length : length (graph_words h w) ≡ sheet_length h
  unfolding graph_words
  words-length = length-append (head ++ blocks) edges ∙ omega (arith, front_length, edges-length)

  -- the header's words stay
  pub header-word : (i : ℕ) → i < h.records → word (graph_words h w) i ≡ word w i
  unfolding graph_words
  header-word i l =
      get_or-append (head ++ blocks) edges 0 i (omega (arith, front_length))
      ∙ get_or-append head blocks 0 i (omega (arith, head-length)) ∙ get_or-take h.records w i 0 l

  pub header-words : take h.records (graph_words h w) ≡ take h.records w
  unfolding graph_words
  header-words =
      take-append-le h.records (head ++ blocks) edges (omega (arith, front_length)) ∙ take_at head blocks h.records head-length

  -- the words of a block are its pair
  pair-word : (i : ℕ) → i < 2 * h.blocks → word (graph_words h w) (h.records + i) ≡ word blocks i
  unfolding graph_words
  pair-word i l =
      let p : h.records + i ≡ length head + i = omega (arith, head-length) in
      get_or-append (head ++ blocks) edges 0 (h.records + i) (omega (arith, front_length))
      ∙ ap (λ (k : ℕ). word (head ++ blocks) k) p ∙ get_or-append-add head blocks i 0

  pub cost-is : (v : ℕ) → 1 ≤ v → v ≤ h.blocks → field (graph_words h w) h.records 2 v 0 ≡ cycle_sum h w v
  cost-is v p q =
      let e : h.records + 2 * (v - 1) + 0 ≡ h.records + 2 * (v - 1) = omega arith in
      let n : 1 + (v - 1) ≡ v = omega arith in
      ap (word (graph_words h w)) e ∙ pair-word (2 * (v - 1)) (omega arith)
      ∙ (pairs-are (cycle_sum h w) (first_word h w) h.blocks 1 (v - 1) (omega arith)).0 ∙ ap (cycle_sum h w) n

  pub first-is : (v : ℕ) → 1 ≤ v → v ≤ h.blocks → first_word h (graph_words h w) v ≡ first_word h w v
  first-is v p q =
      let e : h.records + 2 * (v - 1) + 1 ≡ h.records + (2 * (v - 1) + 1) = omega arith in
      let n : 1 + (v - 1) ≡ v = omega arith in
      ap (word (graph_words h w)) e ∙ pair-word (2 * (v - 1) + 1) (omega arith)
      ∙ (pairs-are (cycle_sum h w) (first_word h w) h.blocks 1 (v - 1) (omega arith)).1 ∙ ap (first_word h w) n

  -- the edges' words stay
  edge-word : (i : ℕ) → i < 2 * h.edges → word (graph_words h w) (edges_at h + i) ≡ word w (edges_at h + i)
  unfolding graph_words
  edge-word i l =
      let p : edges_at h + i ≡ length (head ++ blocks) + i = omega (arith, front_length) in
      ap (λ (k : ℕ). word (head ++ blocks ++ edges) k) p ∙ get_or-append-add (head ++ blocks) edges i 0
      ∙ get_or-take (2 * h.edges) (drop (edges_at h) w) i 0 l ∙ get_or-drop (edges_at h) w i 0

  pub edge-is : (e k : ℕ) → 1 ≤ e → e ≤ h.edges → k < 2 → field (graph_words h w) (edges_at h) 2 e k ≡ field w (edges_at h) 2 e k
  edge-is e k p q l =
      let n : edges_at h + 2 * (e - 1) + k ≡ edges_at h + (2 * (e - 1) + k) = omega arith in
      ap (word (graph_words h w)) n ∙ edge-word (2 * (e - 1) + k) (omega arith) ∙ ap (word w) (sym n)
