-- How long a number behind a space is at most, and a list of parts, each with a bound.
-- Rests on base Lists, specs Spaced, Decimals.
use mathlib.Core.Path.{refl}
use mathlib.Core.List.{List, [], ◌∷◌, Memᴰ}
use Prim.Native.Nat.{ℕ, ◌*◌, ◌≤◌, ◌<◌}
use native.Mathlib.Nat.{mul-suc}
use native.Mathlib.Omega.{arith}
use lib.ListN.{length, length-append}
use Rattle.base.specs.Lists.{each}
use Rattle.digits.specs.Spaced.{spaced}
use Rattle.digits.proofs.Decimals.{digits_3, digits_4, digits_5, digits_7, digits-9}

pub spaced-3 : (n : ℕ) → n < 1000 → length (spaced n) ≤ 4
unfolding spaced
spaced-3 n l = omega (arith, digits_3 n l)

pub spaced-4 : (n : ℕ) → n < 10000 → length (spaced n) ≤ 5
unfolding spaced
spaced-4 n l = omega (arith, digits_4 n l)

pub spaced-5 : (n : ℕ) → n < 100000 → length (spaced n) ≤ 6
unfolding spaced
spaced-5 n l = omega (arith, digits_5 n l)

pub spaced-7 : (n : ℕ) → n < 10000000 → length (spaced n) ≤ 8
unfolding spaced
spaced-7 n l = omega (arith, digits_7 n l)

pub spaced-9 : (n : ℕ) → n < 1000000000 → length (spaced n) ≤ 10
unfolding spaced
spaced-9 n l = omega (arith, digits-9 n l)

-- the parts that f gives, each of at most k bytes
pub each-room : (f : ℕ → List ℕ) (k : ℕ) (xs : List ℕ) → ((x : ℕ) → Memᴰ x xs → length (f x) ≤ k) → length (each f xs) ≤ k * length xs
unfolding each
each-room f k [] r = omega arith
each-room f k (x ∷ xs) r =
    omega (
      arith,
      length-append (f x) (each f xs),
      r x (Memᴰ.head refl),
      each-room f k xs (λ y m. r y (Memᴰ.tail m)),
      mul-suc k (length xs),
    )
