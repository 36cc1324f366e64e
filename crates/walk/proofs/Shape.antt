-- The shape of a walk: what each test of it says of refusal 33, and what a walk that passes has.
-- Rests on base Truth and Orders, theory Walks, calls Moves, specs Walks.
use mathlib.Core.Path.{◌≡◌, refl, sym, ap, ◌∙◌}
use mathlib.Core.Bool.{Bool, true, false}
use Prim.Native.Nat.{ℕ}
use borrow.Author.Tests.{ltb-false}
use lib.Dec.{ltb, eqb}
use Rattle.base.specs.Checks.{outside}
use Rattle.base.proofs.Truth.{not-both, or-false}
use Rattle.base.proofs.Orders.{inside_of}
use Rattle.theory.specs.Machines.{End as Ends, going, exit, diverted}
use Rattle.theory.specs.Walks.{Walk, is_exit, has_ended, InShape}
use Rattle.calls.specs.Moves.{out_of_shape}
use Rattle.walk.specs.Walks.{apart}

-- the test of a walk that has ended
pub ended_is : {e : Ends} {r : Bool} → r ≡ has_ended e → r ≡ true → e ≡ going → ⊥
unfolding has_ended
ended_is q p z = not-both (sym q ∙ p) (ap has_ended z)

pub going-is : (e : Ends) {r : Bool} → r ≡ has_ended e → r ≡ false → e ≡ going
unfolding has_ended
going-is going q p = refl
going-is exit q p = absurd (not-both q p)
going-is diverted q p = absurd (not-both q p)

together : (a b : Bool) → apart a b ≡ false → a ≡ b
together true true e = refl
together true false e = absurd (not-both refl e)
together false true e = absurd (not-both refl e)
together false false e = refl

module _ (n x m : ℕ) (s : Walk) where
  pub shape_of : out_of_shape n x m s ≡ false → InShape n x m s
  unfolding out_of_shape
  shape_of e =
      let a = or-false (outside 1 n s.place) _ e in
      let b = or-false (apart (is_exit s.end) (eqb s.place x)) (ltb m s.count) a.1 in
      record {
        place = inside_of 1 n s.place a.0;
        ended = together (is_exit s.end) (eqb s.place x) b.0;
        count = ltb-false m s.count b.1;
      }
