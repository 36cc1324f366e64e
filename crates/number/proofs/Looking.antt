-- What is looked up among the numbers of the marked copies is the number of the copy that serves the cycles left.
-- Rests on base Copies, theory Completions, tables Tables, specs Numbers.
use mathlib.Core.Path.{◌≡◌, refl, sym, ap, ◌∙◌}
use mathlib.Core.Bool.{Bool, true, false}
use mathlib.Core.List.{List, [], ◌∷◌}
use mathlib.Core.Option.{Option, some, map}
use Prim.Native.Nat.{ℕ, zero, suc, ◌≤◌}
use native.Mathlib.Omega.{arith}
use lib.ListN.{get_or}
use Rattle.base.specs.Lists.{any, option_of}
use Rattle.base.specs.Cells.{cell_of}
use Rattle.base.specs.Copy.{Copy, copy_of, same, is_in, number_from}
use Rattle.base.proofs.Truth.{not-both, else-false, or-false}
use Rattle.base.proofs.Lists.{keep-e}
use Rattle.base.proofs.Copies.{is_in-mem}
use Rattle.theory.specs.Completions.{Graph, completes, low_of}
use Rattle.theory.specs.Copies.{candidates, copy_for, target_number}
use Rattle.theory.proofs.Completions.{largest-some, largest-self}
use Rattle.tables.specs.Tables.{marked, marked_copies, Numbers}
use Rattle.number.specs.Numbers.{number_by, number_in}

-- what is not in the list has no number
no_number : (n : ℕ) (c : Copy) (xs : List Copy) → is_in c xs ≡ false → number_from n c xs ≡ 0
unfolding number_from is_in any
no_number n c [] e = refl
no_number n c (x ∷ xs) e =
    let p = or-false (same c x) (any (same c) xs) e in rw (p.0, number_from) (no_number (suc n) c xs p.1)

-- a copy that is not marked has none
unmarked : (n b : ℕ) (marks : List ℕ) (v l : ℕ) → marked b marks v l ≡ false → number_from 1 (copy_of v l) (marked_copies n b marks) ≡ 0
unfolding marked_copies
unmarked n b marks v l e =
    no_number 1 (copy_of v l) (marked_copies n b marks)
    (else-false (is_in (copy_of v l) (marked_copies n b marks))
    (λ p. not-both (keep-e _ (candidates n b) (is_in-mem (copy_of v l) (marked_copies n b marks) p)).1 e))

abbrev at : ℕ → List ℕ → ℕ → ℕ → ℕ
at b numbers v r = get_or numbers (cell_of b v r) 0

-- THE WAYS of the code, with the entry x of v and r
module _ (b : ℕ) (marks numbers : List ℕ) (v r : ℕ) {x : ℕ} (e : x ≡ at b numbers v r) where
  pub at_once : marked b marks v r ≡ true → x ≡ number_in b marks numbers v r
  unfolding number_in
  at_once t = rw (t, number_in) e

  by : marked b marks v r ≡ false → {l : ℕ} → x ≡ l → number_by b marks numbers v l ≡ number_in b marks numbers v r
  unfolding number_in
  by t z = rw (t, number_in) (ap (number_by b marks numbers v) (sym z ∙ e))

  pub by-none : marked b marks v r ≡ false → x ≡ 0 → 0 ≡ number_in b marks numbers v r
  unfolding number_by
  by-none t z = by t z

  module _ (t : marked b marks v r ≡ false) (l : ℕ) (z : x ≡ suc l) where
    pub by-unmarked : marked b marks v l ≡ false → 0 ≡ number_in b marks numbers v r
    unfolding number_by
    by-unmarked f = rw (f, number_by) at (by t z)

    pub by-marked : marked b marks v l ≡ true → at b numbers v l ≡ number_in b marks numbers v r
    unfolding number_by
    by-marked f = rw (f, number_by) at (by t z)

-- THE NUMBERS OF A GRAPH'S COPIES, each marked copy's low being a completion cost of its block
module _ (g : Graph) {n b : ℕ} {marks numbers : List ℕ} (N : Numbers (low_of g) n b marks numbers)
    (serves : (v l : ℕ) → 1 ≤ v → v ≤ n → l ≤ b → marked b marks v l ≡ true → completes g v l ≡ true)
    (v r : ℕ) (p : 1 ≤ v) (q : v ≤ n) (l : r ≤ b) where
  -- an entry of the lows is at most one more than the cycles left
  pub entry-small : marked b marks v r ≡ false → at b numbers v r ≤ suc r
  unfolding low_of option_of
  entry-small e = go (at b numbers v r) (N.others v r p q l e)
    where
      go : (y : ℕ) → option_of y ≡ low_of g v r → y ≤ suc r
      go zero k = omega arith
      go (suc a) k = omega (arith, (largest-some (completes g v) r a (sym k)).below)

  pub number_is : number_in b marks numbers v r ≡ target_number (marked_copies n b marks) (copy_for g r v)
  unfolding copy_for target_number low_of option_of
  number_is = go (marked b marks v r) refl
    where
      target : {o : Option ℕ} → low_of g v r ≡ o
          → target_number (marked_copies n b marks) (copy_for g r v) ≡ target_number (marked_copies n b marks) (map (copy_of v) o)
      target e = ap (λ (o : Option ℕ). target_number (marked_copies n b marks) (map (copy_of v) o)) e

      found : (a : ℕ) → at b numbers v r ≡ suc a → marked b marks v r ≡ false → low_of g v r ≡ some a → (t : Bool) → marked b marks v a ≡ t
          → number_in b marks numbers v r ≡ number_from 1 (copy_of v a) (marked_copies n b marks)
      found a z e k true t =
          sym (by-marked b marks numbers v r refl e a z t)
          ∙ N.copies v a p q (omega (arith, (largest-some (completes g v) r a k).below)) t
      found a z e k false t = sym (by-unmarked b marks numbers v r refl e a z t) ∙ sym (unmarked n b marks v a t)

      other : (z : ℕ) → at b numbers v r ≡ z → option_of z ≡ low_of g v r → marked b marks v r ≡ false
          → number_in b marks numbers v r ≡ target_number (marked_copies n b marks) (copy_for g r v)
      other zero z k e = sym (by-none b marks numbers v r refl e z) ∙ sym (target (sym k))
      other (suc a) z k e = found a z e (sym k) (marked b marks v a) refl ∙ sym (target (sym k))

      go : (t : Bool) → marked b marks v r ≡ t → number_in b marks numbers v r ≡ target_number (marked_copies n b marks) (copy_for g r v)
      go true e =
          sym (at_once b marks numbers v r refl e) ∙ N.copies v r p q l e
          ∙ sym (target (largest-self (completes g v) r (serves v r p q l e)))
      go false e = other (at b numbers v r) refl (N.others v r p q l e) e
