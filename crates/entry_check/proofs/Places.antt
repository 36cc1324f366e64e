-- A search in a list as a search among its places, and the place of its last number.
-- Rests on base Numbers.
use mathlib.Core.Path.{◌≡◌, refl, sym, ap, ◌∙◌}
use mathlib.Core.Bool.{Bool, true, false, ◌||◌}
use mathlib.Core.List.{List, [], ◌∷◌}
use Prim.Native.Nat.{ℕ, zero, suc, ◌-◌}
use native.Mathlib.Omega.{arith}
use native.Mathlib.Decide.{ℕ_discrete}
use Rattle.std.specs.Prelude.{nat_eq}
use Rattle.std.specs.List.{list_any, zip}
use lib.Dec.{eqb}
use lib.ListN.{length, get_or}
use borrow.Author.Tests.{eq-eqb, ne_eqb}
use Rattle.base.specs.Lists.{any, from, member, last_of, nth}
use Rattle.base.proofs.Numbers.{last-nth}

-- A list that has a number, as `contains` tells it
flipped : (i j : ℕ) → eqb i j ≡ eqb j i
flipped i j = go (ℕ_discrete i j)
  where
    go : Dec (i ≡ j) → eqb i j ≡ eqb j i
    go (yes e) = eq-eqb i j e ∙ sym (eq-eqb j i (sym e))
    go (no n) = ne_eqb i j n ∙ sym (ne_eqb j i (λ e. n (sym e)))

pub member_any : {r : Bool} (i : ℕ) (xs : List ℕ) → r ≡ list_any (λ x. nat_eq x i) xs → r ≡ member i xs
unfolding member any
member_any i xs e = e ∙ go xs
  where
    go : (xs : List ℕ) → list_any (λ x. nat_eq x i) xs ≡ any (eqb i) xs
    go [] = refl
    go (x ∷ xs) = λ j. flipped x i j || go xs j

-- TWO LISTS OF ONE LENGTH, place by place
module _ (f : ℕ → ℕ → Bool) where
  module _ (x y : ℕ) (xs ys : List ℕ) where
    behind : (z : ℕ) (zs : List ℕ) (i : ℕ) → nth (z ∷ zs) (suc (suc i)) ≡ nth zs (suc i)
    behind z zs i = let e : suc (suc i) - 1 ≡ suc (suc i - 1) = omega arith in ap (λ j. get_or (z ∷ zs) j 0) e

    later : (n i : ℕ) → any (λ k. f (nth (x ∷ xs) k) (nth (y ∷ ys) k)) (from (suc (suc i)) n) ≡ any (λ k. f (nth xs k) (nth ys k)) (from (suc i) n)
    unfolding any from
    later zero i = refl
    later (suc n) i = λ j. f (behind x xs i j) (behind y ys i j) || later n (suc i) j

  pub zipped : (xs ys : List ℕ) → length ys ≡ length xs → list_any (λ p. f p.0 p.1) (zip xs ys) ≡ any (λ k. f (nth xs k) (nth ys k)) (from 1 (length xs))
  unfolding any from
  zipped [] ys l = refl
  zipped (x ∷ xs) [] l = absurd (omega arith)
  zipped (x ∷ xs) (y ∷ ys) l = ap (λ (b : Bool). f x y || b) (zipped xs ys (omega arith) ∙ sym (later x y xs ys (length xs) 0))

-- the last of a list, as it was read
module _ {e : ℕ} (xs : List ℕ) (q : e ≡ get_or xs (length xs - 1) 0) where
  pub last-zero : e ≡ 0 → eqb (last_of xs) 0 ≡ true
  last-zero z = eq-eqb (last_of xs) 0 (last-nth xs ∙ sym q ∙ z)

  pub last_some : (e ≡ 0 → ⊥) → eqb (last_of xs) 0 ≡ false
  last_some z = ne_eqb (last_of xs) 0 (λ y. z (q ∙ sym (last-nth xs) ∙ y))
