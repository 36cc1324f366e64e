-- The copies of block 1 are counted from the first copy on, up to the first copy of another block: in copies in order, these are all.
-- Rests on base Truth, formats RuleRead, record_check Records, specs Starts.
use mathlib.Core.Path.{◌≡◌, refl, sym, ap, ◌∙◌}
use mathlib.Core.Bool.{Bool, true, false}
use mathlib.Core.List.{List}
use Prim.Native.Nat.{ℕ, ◌+◌, ◌≤◌}
use native.Mathlib.Omega.{arith}
use native.Mathlib.Decide.{ℕ_discrete}
use lib.Dec.{ltb}
use borrow.Author.Tests.{ltb-true, ltb-false}
use Rattle.base.specs.Lists.{from}
use Rattle.base.proofs.Truth.{or-false}
use Rattle.formats.specs.BoundedSheet.{Heading, block_at}
use Rattle.formats.specs.Rule11.{bad_blocks, bad_lows, bad_copy_order, copies_of, start_count}
use Rattle.formats.proofs.RuleRead.{ordered-front, ordered-in, ordered-out}
use Rattle.record_check.specs.Records.{bad_records}
use Rattle.bounded_check.specs.Starts.{Leading}

module _ (h : Heading) (s : List ℕ) (k : ℕ) where
  -- what the copies keep: blocks within their limits, in order
  pub kept-order : bad_records h s k ≡ false → (bad_blocks h s ≡ false) × (bad_copy_order h s ≡ false)
  unfolding bad_records
  kept-order R =
      let p = or-false (bad_blocks h s) _ R in
      let q = or-false (bad_lows h s) _ p.1 in
      (p.0, (or-false (bad_copy_order h s) _ q.1).0)

  -- THE LOOP has passed k copies of block 1; v is the block of the next
  pub one_more : ((i : ℕ) → 1 ≤ i → i ≤ k → block_at h s i ≡ 1) → {v : ℕ} → v ≡ block_at h s (k + 1) → v ≡ 1
      → (i : ℕ) → 1 ≤ i → i ≤ k + 1 → block_at h s i ≡ 1
  one_more o q e i p l = go (ℕ_discrete i (k + 1))
    where
      go : Dec (i ≡ k + 1) → block_at h s i ≡ 1
      go (yes z) = ap (block_at h s) z ∙ sym q ∙ e
      go (no z) = o i p (omega arith)

  module _ (L : Leading h s k) where
    -- in copies in order they are all copies of block 1
    module _ (B : bad_blocks h s ≡ false) (O : bad_copy_order h s ≡ false) where
      no-fewer : start_count h s ≤ k
      no-fewer = go (ltb k (start_count h s)) refl
        where
          go : (b : Bool) → ltb k (start_count h s) ≡ b → start_count h s ≤ k
          go true e =
              let z = ordered-out h s B O (k + 1) (omega arith) (omega (arith, ltb-true k _ e)) in
              absurd (L.next (omega (arith, z.0)) z.1)
          go false e = ltb-false k _ e

      no_more : k ≤ start_count h s
      no_more = go (ℕ_discrete k 0)
        where
          go : Dec (k ≡ 0) → k ≤ start_count h s
          go (yes z) = omega arith
          go (no z) = ordered-in h s B O k (omega arith) L.most (L.ones k (omega arith) (omega arith))

      leading-are : k ≡ start_count h s
      leading-are = omega (arith, no-fewer, no_more)

    -- so they serve for the start copies where the records are tested
    pub records-lead : bad_records h s k ≡ bad_records h s (start_count h s)
    unfolding bad_records
    records-lead = go (bad_blocks h s) (bad_lows h s) (bad_copy_order h s) refl refl refl
      where
        go : (a b c : Bool) → bad_blocks h s ≡ a → bad_lows h s ≡ b → bad_copy_order h s ≡ c → bad_records h s k ≡ bad_records h s (start_count h s)
        go true b c e f g = rw e
        go false true c e f g = rw (e, f)
        go false false true e f g = rw (e, f, g)
        go false false false e f g = ap (bad_records h s) (leading-are e g)

    pub starts-are : bad_records h s k ≡ false → k ≡ start_count h s
    starts-are R = let o = kept-order R in leading-are o.0 o.1

    pub start-copies : bad_records h s k ≡ false → copies_of h s 1 ≡ from 1 k
    start-copies R = let o = kept-order R in ordered-front h s o.0 o.1 ∙ ap (from 1) (sym (starts-are R))
