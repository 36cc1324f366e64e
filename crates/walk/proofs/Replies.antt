-- The reply of a machine to a choice, case by case, for a walk with the number of its budget, and its number.
-- Rests on base Options, theory Machines and Walks, calls Weigh and Moves.
use mathlib.Core.Path.{◌≡◌, refl}
use mathlib.Core.Bool.{false}
use mathlib.Core.Option.{Option, some, none}
use Prim.Native.Nat.{ℕ, ◌-◌}
use Rattle.base.specs.Lists.{any, chosen, from, member, option_of}
use Rattle.base.proofs.Options.{option-none, option-some}
use Rattle.theory.specs.Machines.{End, going, exit, diverted, Machine, taken, reply_at, reply}
use Rattle.theory.specs.Walks.{Walk}
use Rattle.calls.specs.Weigh.{before_weighing}
use Rattle.calls.specs.Moves.{Budgeted, budgeted, reply_with}
use Rattle.calls.proofs.Weigh.{spared}

-- A MACHINE, where the k-th target is x - 1, if any; n is the number of the walk's budget
module _ (m : Machine Walk ℕ) (n : ℕ) (s : Walk) (k : ℕ) where
  pub ended : (m.stands s ≡ going → ⊥) → record { answer = 32; after = budgeted n s } ≡ reply_with n (reply m s k)
  unfolding reply reply_at
  ended l = go (m.stands s) l
    where
      go : (e : End) → (e ≡ going → ⊥) → record { answer = 32; after = budgeted n s } ≡ reply_with n (reply_at m e s k)
      go going l = absurd (l refl)
      go exit l = refl
      go diverted l = refl

  module _ (g : m.stands s ≡ going) (x : ℕ) (q : option_of x ≡ chosen (m.targets s) k) where
    replies : (o : Option ℕ) → chosen (m.targets s) k ≡ o → reply_with n (taken m s o) ≡ reply_with n (reply m s k)
    unfolding reply reply_at
    replies o e = rw (g, e)

    pub unchosen : x ≡ 0 → record { answer = 31; after = budgeted n s } ≡ reply_with n (reply m s k)
    unfolding taken
    unchosen z = replies none (option-none x q z)

    pub takes : (x ≡ 0 → ⊥) → (a : Budgeted) → a ≡ budgeted n (m.take s (x - 1))
        → record { answer = 0; after = a } ≡ reply_with n (reply m s k)
    unfolding taken
    takes l a e = rw e (replies (some (x - 1)) (option-some x q l))

-- a machine answers 0, 31 or 32, numbers that are not checked before weighing
pub reply-late : {S : Type 0} (m : Machine S ℕ) (s : S) (k : ℕ) → before_weighing (reply m s k).answer ≡ false
unfolding reply reply_at taken any member from
reply-late m s k = stands (m.stands s)
  where
    chooses : (o : Option ℕ) → before_weighing (taken m s o).answer ≡ false
    chooses none = spared 31
    chooses (some x) = spared 0

    stands : (e : End) → before_weighing (reply_at m e s k).answer ≡ false
    stands going = chooses (chosen (m.targets s) k)
    stands exit = spared 32
    stands diverted = spared 32
