-- The reply of the bounded walk to a choice, case by case.
-- Rests on base Lists, theory Machines and Walks, calls Moves, walk Replies.
use mathlib.Core.Path.{◌≡◌, refl, sym, ap, ◌∙◌}
use mathlib.Core.Option.{some, none}
use Prim.Native.Nat.{ℕ, zero, suc, ◌+◌, ◌-◌}
use native.Mathlib.Omega.{arith}
use Rattle.base.specs.Lists.{option_of, chosen}
use Rattle.theory.specs.Machines.{going, diverted, reply}
use Rattle.theory.specs.Walks.{Walk, end_at, Bounded, bounded_take, bounded_walk}
use Rattle.calls.specs.Moves.{Budgeted, budgeted, reply_with}
use Rattle.walk.proofs.Replies.{unchosen, takes}

-- n is the number of the walk's budget
module _ (m : Bounded) (n : ℕ) (s : Walk) (k : ℕ) (g : s.end ≡ going) where
  pub missing : none ≡ chosen (m.next s.place) k → record { answer = 31; after = budgeted n s } ≡ reply_with n (reply (bounded_walk m) s k)
  unfolding bounded_walk option_of
  missing q = unchosen (bounded_walk m) n s k g 0 q refl

  -- the k-th target is t
  module _ {t : ℕ} (q : some t ≡ chosen (m.next s.place) k) where
    moved : {a : Budgeted} → a ≡ budgeted n (bounded_take m.last s t) → record { answer = 0; after = a } ≡ reply_with n (reply (bounded_walk m) s k)
    unfolding bounded_walk option_of
    moved r =
        let p : suc t - 1 ≡ t = omega arith in
        takes (bounded_walk m) n s k g (suc t) q (λ e. omega arith) _ (r ∙ ap (λ (x : ℕ). budgeted n (bounded_take m.last s x)) (sym p))

    pub diverts : t ≡ 0 → {a : Budgeted} → a ≡ budgeted n (record { place = s.place; count = s.count + 1; end = diverted })
        → record { answer = 0; after = a } ≡ reply_with n (reply (bounded_walk m) s k)
    unfolding bounded_take
    diverts z r =
        let c : s.count + 1 ≡ suc s.count = omega arith in
        moved (r ∙ (λ i. budgeted n (record { place = s.place; count = c i; end = diverted })) ∙ ap (λ (x : ℕ). budgeted n (bounded_take m.last s x)) (sym z))

    pub enters : (t ≡ 0 → ⊥) → {a : Budgeted} → a ≡ budgeted n (record { place = t; count = s.count + 1; end = end_at m.last t })
        → record { answer = 0; after = a } ≡ reply_with n (reply (bounded_walk m) s k)
    unfolding bounded_take
    enters l r = moved (r ∙ go t l)
      where
        go : (t : ℕ) → (t ≡ 0 → ⊥) → budgeted n (record { place = t; count = s.count + 1; end = end_at m.last t }) ≡ budgeted n (bounded_take m.last s t)
        go zero l = absurd (l refl)
        go (suc t) l =
            let c : s.count + 1 ≡ suc s.count = omega arith in
            λ i. budgeted n (record { place = suc t; count = c i; end = end_at m.last (suc t) })
