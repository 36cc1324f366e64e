-- The decimal digits of a number: the last one behind those of a tenth; and how many there are.
-- Rests on formats Listing.
use mathlib.Core.Path.{◌≡◌, refl, ap, ◌∙◌}
use mathlib.Core.Bool.{Bool, true, false}
use mathlib.Core.List.{List, [], ◌∷◌, ◌++◌}
use Prim.Native.Nat.{ℕ, zero, suc, ◌+◌, ◌/◌, ◌%◌, ◌≤◌, ◌<◌}
use native.Mathlib.Omega.{arith}
use native.Mathlib.Decide.{dec_lt}
use lib.Dec.{ltb}
use lib.ListN.{length, length-append}
use borrow.Author.Tests.{lt-ltb, le-ltb, ltb-false}
use Rattle.formats.specs.Listing.{digits, decimal}

-- the last digit, behind those before it
abbrev last : List ℕ → ℕ → List ℕ
last ds n = ds ++ ((48 + n % 10) ∷ [])

-- a number has no more digits than it counts, so it does not matter how many more are allowed
enough : (k j n : ℕ) → n < k → n < j → digits k n ≡ digits j n
unfolding digits
enough zero j n p q = absurd (omega arith)
enough (suc k) zero n p q = absurd (omega arith)
enough (suc k) (suc j) n p q = go (ltb n 10) refl (enough k j (n / 10))
  where
    go : (b : Bool) → ltb n 10 ≡ b → (n / 10 < k → n / 10 < j → digits k (n / 10) ≡ digits j (n / 10)) → digits (suc k) n ≡ digits (suc j) n
    go true e below = rw (e, digits)
    go false e below =
        let l = ltb-false n 10 e in
        rw (e, digits) (ap (λ (ds : List ℕ). last ds n) (below (omega arith) (omega arith)))

pub decimal-one : (n : ℕ) → n < 10 → decimal n ≡ (48 + n) ∷ []
unfolding decimal digits
decimal-one n l = rw (lt-ltb n 10 l, digits)

pub decimal-more : (n : ℕ) → 10 ≤ n → decimal n ≡ decimal (n / 10) ++ ((48 + n % 10) ∷ [])
unfolding decimal digits
decimal-more n l =
    rw (le-ltb n 10 l, digits)
    (ap (λ (ds : List ℕ). last ds n) (enough n (suc (n / 10)) (n / 10) (omega arith) (omega arith)))

-- HOW MANY DIGITS

pub one-length : (n : ℕ) → n < 10 → length (decimal n) ≡ 1
one-length n l = ap length (decimal-one n l)

pub one_more : (n : ℕ) → 10 ≤ n → length (decimal n) ≡ length (decimal (n / 10)) + 1
one_more n l = ap length (decimal-more n l) ∙ length-append (decimal (n / 10)) ((48 + n % 10) ∷ [])

length_more : (k n : ℕ) → (10 ≤ n → length (decimal (n / 10)) ≤ k) → 1 ≤ k → length (decimal n) ≤ suc k
length_more k n f p = go (dec_lt n 10)
  where
    go : Dec (n < 10) → length (decimal n) ≤ suc k
    go (yes l) = omega (arith, one-length n l)
    go (no l) = let h : 10 ≤ n = omega arith in omega (arith, one_more n h, f h)

digits_1 : (n : ℕ) → n < 10 → length (decimal n) ≤ 1
digits_1 n l = omega (arith, one-length n l)

digits_2 : (n : ℕ) → n < 100 → length (decimal n) ≤ 2
digits_2 n l = length_more 1 n (λ _. digits_1 (n / 10) (omega arith)) (omega arith)

pub digits_3 : (n : ℕ) → n < 1000 → length (decimal n) ≤ 3
digits_3 n l = length_more 2 n (λ _. digits_2 (n / 10) (omega arith)) (omega arith)

pub digits_4 : (n : ℕ) → n < 10000 → length (decimal n) ≤ 4
digits_4 n l = length_more 3 n (λ _. digits_3 (n / 10) (omega arith)) (omega arith)

pub digits_5 : (n : ℕ) → n < 100000 → length (decimal n) ≤ 5
digits_5 n l = length_more 4 n (λ _. digits_4 (n / 10) (omega arith)) (omega arith)

digits_6 : (n : ℕ) → n < 1000000 → length (decimal n) ≤ 6
digits_6 n l = length_more 5 n (λ _. digits_5 (n / 10) (omega arith)) (omega arith)

pub digits_7 : (n : ℕ) → n < 10000000 → length (decimal n) ≤ 7
digits_7 n l = length_more 6 n (λ _. digits_6 (n / 10) (omega arith)) (omega arith)

digits_8 : (n : ℕ) → n < 100000000 → length (decimal n) ≤ 8
digits_8 n l = length_more 7 n (λ _. digits_7 (n / 10) (omega arith)) (omega arith)

pub digits-9 : (n : ℕ) → n < 1000000000 → length (decimal n) ≤ 9
digits-9 n l = length_more 8 n (λ _. digits_8 (n / 10) (omega arith)) (omega arith)
