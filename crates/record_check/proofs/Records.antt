-- One pass over the copies: a copy that is wrong by itself or behind the one before it, and its edges.
-- Rests on base Truth and Search, formats Rule11, copy_check BadCopy, Edges, specs Records.
use mathlib.Core.Path.{◌≡◌, refl, sym, ap, ◌∙◌}
use mathlib.Core.Bool.{Bool, true, false, ◌||◌, not, or_assoc, or-true}
use mathlib.Core.List.{List}
use Prim.Native.Nat.{ℕ, zero, suc, ◌+◌, ◌-◌, ◌≤◌, ◌<◌}
use native.Mathlib.Omega.{arith}
use native.Mathlib.Numerals.{add-one}
use lib.Dec.{eqb, ltb}
use borrow.Author.Tests.{lt-ltb, ltb-false, not-true}
use Rattle.std.specs.Prelude.{Option, Some, None}
use Rattle.base.specs.Lists.{any, from}
use Rattle.base.specs.Copy.{Copy, copy_of, before}
use Rattle.base.specs.Checks.{outside}
use Rattle.base.proofs.Truth.{any-or, not-both, or_l}
use Rattle.base.proofs.Search as search
use Rattle.base.proofs.Search.{Search}
use Rattle.formats.specs.Limits.{most_blocks}
use Rattle.formats.specs.BoundedSheet.{Heading, block_at, low_at, first_at, next_at, copy_at}
use Rattle.formats.specs.Rule11.{bad_blocks, bad_lows, bad_copy_order}
use Rattle.copy_check.specs.BadCopy.{copy_in, bad_copy}
use Rattle.copy_check.specs.declared.CopyKey.{CopyKey}
use Rattle.record_check.specs.Records.{bad_edges, bad_records}
use Rattle.record_check.specs.Chains.{Consecutive}
use Rattle.record_check.proofs.Edges as edges
use Rattle.record_check.proofs.Edges.{stray, Following}

-- a test that comes true only where the first does is left out
spared : (a b z o : Bool) → (z ≡ true → a ≡ true) → (a || (b || (z || o))) ≡ (a || (b || o))
spared true b z o i = refl
spared false b true o i = absurd (not-both (i refl) refl)
spared false b false o i = refl

module _ (h : Heading) (s : List ℕ) (k : ℕ) where
  abbrev n : ℕ
  n = h.copies

  -- the copy before a copy; before the first (0, 0), which a copy of a block of 1 at least stands behind
  unfoldable pub copy_before : ℕ → Copy
  copy_before zero = copy_of 0 0
  copy_before (suc zero) = copy_of 0 0
  copy_before (suc (suc i)) = copy_at h s (suc i)

  next-before : (i : ℕ) → 1 ≤ i → copy_at h s i ≡ copy_before (i + 1)
  unfolding copy_before
  next-before zero l = absurd (omega arith)
  next-before (suc i) l = rw add-one

  -- what is wrong with a copy by itself and behind the one before it
  abbrev pub wrong : ℕ → Bool
  wrong i = bad_copy h.largest (copy_before i) (copy_at h s i)

  -- THE CLAUSES THAT GO COPY BY COPY

  abbrev bad_block : ℕ → Bool
  bad_block i = outside 1 most_blocks (block_at h s i)

  abbrev bad_low : ℕ → Bool
  bad_low i = ltb h.largest (low_at h s i)

  abbrev unordered : ℕ → Bool
  unordered i = not (before (copy_before i) (copy_at h s i))

  -- each copy behind the one before it
  order_from : (k i : ℕ) → any unordered (from (suc (suc i)) k) ≡ any (λ i. not (before (copy_at h s i) (copy_at h s (suc i)))) (from (suc i) k)
  unfolding any from copy_before
  order_from zero i = refl
  order_from (suc k) i = ap (λ (b : Bool). not (before (copy_at h s (suc i)) (copy_at h s (suc (suc i)))) || b) (order_from k (suc i))

  -- the first copy is tested behind (0, 0), each other one behind the one before it
  order_is : 1 ≤ n → any unordered (from 1 n) ≡ (unordered 1 || bad_copy_order h s)
  unfolding any from bad_copy_order
  order_is l =
      let e : n ≡ suc (n - 1) = omega arith in
      ap (λ (k : ℕ). any unordered (from 1 k)) e ∙ ap (λ (b : Bool). unordered 1 || b) (order_from (n - 1) 0)

  -- the first fails only where its block is 0
  first-unordered : 1 ≤ n → unordered 1 ≡ true → bad_blocks h s ≡ true
  unfolding before copy_before copy_at outside any from bad_blocks
  first-unordered l e =
      let e₁ : n ≡ suc (n - 1) = omega arith in
      ap (λ (k : ℕ). any bad_block (from 1 k)) e₁ ∙ or_l _ (or_l _ (go (ltb 0 (block_at h s 1)) refl))
    where
      go : (b : Bool) → ltb 0 (block_at h s 1) ≡ b → ltb (block_at h s 1) 1 ≡ true
      go true p = absurd (not-both (or_l _ p) (not-true _ e))
      go false p = lt-ltb (block_at h s 1) 1 (omega (arith, ltb-false 0 (block_at h s 1) p))

  -- the three clauses in one search
  wrong-are : 1 ≤ n → any wrong (from 1 n) ≡ (bad_blocks h s || (bad_lows h s || bad_copy_order h s))
  unfolding bad_copy copy_at bad_blocks bad_lows
  wrong-are l =
      let is : List ℕ = from 1 n in
      any-or bad_block (λ i. bad_low i || unordered i) is
      ∙ ap (λ (b : Bool). bad_blocks h s || b) (any-or bad_low unordered is)
      ∙ ap (λ (b : Bool). bad_blocks h s || (bad_lows h s || b)) (order_is l)
      ∙ spared (bad_blocks h s) (bad_lows h s) (unordered 1) (bad_copy_order h s) (first-unordered l)

  -- the clauses on the records, by what their parts say
  records-are : 1 ≤ n → (p r : Bool) → any wrong (from 1 n) ≡ p → bad_edges h s k ≡ r → bad_records h s k ≡ (p || r)
  unfolding bad_records
  records-are l p r e g =
      simp or_assoc at (ap (λ (b : Bool). b || bad_edges h s k) (sym (wrong-are l)))
      ∙ (λ i. e i || g i)

  -- THE LOOP is at the copy i, behind the copy before it; it has met the edges before e
  pub record Checking (i : ℕ) (previous : CopyKey) (e : ℕ) : Type 0 where
    pub behind : copy_in previous ≡ copy_before i
    pub search : Search (any wrong (from 1 n)) wrong n i
    pub edges : Following h s k i e

  pub begin : {first : CopyKey} → copy_in first ≡ copy_of 0 0 → Checking 1 first 1
  unfolding copy_before
  begin z = record { behind = z; search = search.begin refl refl; edges = edges.begin h s k }

  module _ {i : ℕ} {previous : CopyKey} {e : ℕ} (S : Checking i previous e) where
    -- one copy, as its words were read
    module _ (m : i ≤ n) {key : CopyKey} (p : copy_in key ≡ copy_of (block_at h s i) (low_at h s i)) where
      here : copy_in key ≡ copy_at h s i
      unfolding copy_at
      here = p

      wrong-is : {x b : Bool} → x ≡ bad_copy h.largest (copy_in previous) (copy_in key) → x ≡ b → wrong i ≡ b
      wrong-is z y = (λ x. bad_copy h.largest (sym S.behind x) (sym here x)) ∙ sym z ∙ y

      pub bad-copy : {x : Bool} → x ≡ bad_copy h.largest (copy_in previous) (copy_in key) → x ≡ true → true ≡ bad_records h s k
      bad-copy z y = sym (records-are (omega (arith, S.search.least)) true _ (sym (search.found S.search m (wrong-is z y))) refl)

      -- its chain
      module _ {first : ℕ} (r : first ≡ first_at h s i) {end : Option ℕ} (N : Consecutive (next_at h s) (stray h s k) h.edges first e end) where
        pub bad-chain : end ≡ None → true ≡ bad_records h s k
        bad-chain z = sym (records-are (omega (arith, S.search.least)) _ true refl (edges.broken h s k S.edges N m r z)
            ∙ or-true (any wrong (from 1 n)))

        pub onward : {x : Bool} → x ≡ bad_copy h.largest (copy_in previous) (copy_in key) → x ≡ false → {d : ℕ} → end ≡ Some d
            → Checking (i + 1) key d
        onward z y u = record {
          behind = here ∙ next-before i S.search.least;
          search = search.onward S.search m (wrong-is z y);
          edges = edges.onward h s k S.edges N m r u;
        }

    -- all copies are passed
    pub all-passed : 1 ≤ n → n < i → not (eqb e (h.edges + 1)) ≡ bad_records h s k
    all-passed l m = sym (records-are l false _ (sym (search.none S.search m)) (edges.all_done h s k S.edges m))
