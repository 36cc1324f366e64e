-- The largest number that passes a test, as a loop from above finds it, and the smallest, as one from below does.
-- Rests on base Lists, theory Completions.
use mathlib.Core.Path.{◌≡◌, sym, ap, ◌∙◌}
use mathlib.Core.Bool.{Bool, true, false}
use mathlib.Core.Option.{Option, some, none}
use Prim.Native.Nat.{ℕ, zero, suc, ◌+◌, ◌-◌, ◌≤◌, ◌<◌}
use native.Mathlib.Omega.{arith}
use native.Mathlib.Numerals.{add-one}
use Rattle.base.specs.Lists.{option_of}
use Rattle.theory.specs.Completions.{largest, smallest}
use Rattle.theory.proofs.Completions.{largest-self}

module _ (f : ℕ → Bool) where
  -- the largest number below i that passes
  unfoldable pub under : ℕ → Option ℕ
  under zero = none
  under (suc k) = largest f k

  -- one number more
  pub under-hit : (k : ℕ) → f k ≡ true → under (suc k) ≡ option_of (suc k)
  unfolding under option_of
  under-hit k p = largest-self f k p

  pub under-miss : (k : ℕ) → f k ≡ false → under (suc k) ≡ under k
  unfolding under largest
  under-miss zero p = rw (p, largest)
  under-miss (suc k) p = rw (p, largest)

  -- THE LOOP at i, searching down from r: what is left to search decides
  pub Left : ℕ → ℕ → Type 0
  Left r i = largest f r ≡ under i

  pub begin : (r : ℕ) → Left r (r + 1)
  unfolding Left under
  begin r = rw add-one

  module _ (r i : ℕ) (h : Left r i) where
    pub out : i ≡ 0 → none ≡ largest f r
    unfolding Left under
    out z = sym (h ∙ ap under z)

    pub hit : 0 < i → f (i - 1) ≡ true → some (i - 1) ≡ largest f r
    unfolding Left under
    hit l e = let p : i ≡ suc (i - 1) = omega arith in sym (h ∙ ap under p ∙ largest-self f (i - 1) e)

    pub miss : 0 < i → f (i - 1) ≡ false → Left r (i - 1)
    unfolding Left
    miss l e = let p : i ≡ suc (i - 1) = omega arith in h ∙ ap under p ∙ under-miss (i - 1) e

  -- THE LOOP at c, searching up to b for what is above r: what is left to search decides
  pub Ahead : ℕ → ℕ → ℕ → Type 0
  Ahead b r c = smallest f (suc r) (b - r) ≡ smallest f c (suc b - c)

  pub ahead : (b r : ℕ) → Ahead b r (r + 1)
  unfolding Ahead
  ahead b r = let p : suc b - (r + 1) ≡ b - r = omega arith in rw (p, add-one)

  module _ (b r c : ℕ) (h : Ahead b r c) where
    pub nothing : b < c → none ≡ smallest f (suc r) (b - r)
    unfolding Ahead smallest
    nothing l = let p : suc b - c ≡ 0 = omega arith in sym (h ∙ rw p)

    pub found : c ≤ b → f c ≡ true → some c ≡ smallest f (suc r) (b - r)
    unfolding Ahead smallest
    found l e = let p : suc b - c ≡ suc (b - c) = omega arith in sym (h ∙ rw (p, smallest, e))

    pub onward : c ≤ b → f c ≡ false → Ahead b r (c + 1)
    unfolding Ahead smallest
    onward l e =
        let p : suc b - c ≡ suc (b - c) = omega arith in
        let q : suc b - (c + 1) ≡ b - c = omega arith in
        h ∙ rw (p, q, smallest, e, add-one)
