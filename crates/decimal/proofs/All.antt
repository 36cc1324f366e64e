-- A property of every number of a list, and of the parts of such a list.
-- Rests on nothing.
use mathlib.Core.List.{List, [], ◌∷◌, ◌++◌}
use Prim.Native.Nat.{ℕ, zero, suc, ◌<◌}
use lib.ListN.{get_or, take, drop, replicate}
use Rattle.formats.specs.Limits.{word_limit}

unfoldable pub AllOf : (ℕ → Type 0) → List ℕ → Type 0
AllOf P [] = Unit {0}
AllOf P (x ∷ xs) = P x × AllOf P xs

module _ (P : ℕ → Type 0) where
  pub all_of : (xs : List ℕ) → ((i : ℕ) → P (get_or xs i 0)) → AllOf P xs
  unfolding AllOf
  all_of [] f = tt
  all_of (x ∷ xs) f = (f zero, all_of xs (λ i. f (suc i)))

  pub all_append : (xs ys : List ℕ) → AllOf P xs → AllOf P ys → AllOf P (xs ++ ys)
  unfolding AllOf
  all_append [] ys p q = q
  all_append (x ∷ xs) ys p q = (p.0, all_append xs ys p.1 q)

  pub all_replicate : (n k : ℕ) → P k → AllOf P (replicate n k)
  unfolding AllOf
  all_replicate zero k p = tt
  all_replicate (suc n) k p = (p, all_replicate n k p)

  pub all_take : (n : ℕ) (xs : List ℕ) → AllOf P xs → AllOf P (take n xs)
  unfolding AllOf
  all_take zero xs p = tt
  all_take (suc n) [] p = tt
  all_take (suc n) (x ∷ xs) p = (p.0, all_take n xs p.1)

  pub all_drop : (n : ℕ) (xs : List ℕ) → AllOf P xs → AllOf P (drop n xs)
  unfolding AllOf
  all_drop zero xs p = p
  all_drop (suc n) [] p = tt
  all_drop (suc n) (x ∷ xs) p = all_drop n xs p.1

-- every number is a word
abbrev pub Words : List ℕ → Type 0
Words ws = AllOf (λ w. w < word_limit) ws
