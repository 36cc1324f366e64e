-- The call, case by case: the sheet is refused, the budget's number is refused, the walk sets out or is stopped.
-- Rests on base Orders, formats RuleKept, calls Starts.
use mathlib.Core.Path.{◌≡◌, refl, sym, ap, ◌∙◌}
use mathlib.Core.Bool.{Bool, true, false}
use mathlib.Core.List.{List, [], ◌∷◌}
use Prim.Native.Nat.{ℕ, zero, suc}
use native.Mathlib.Omega.{arith}
use lib.ListN.{length}
use Rattle.base.specs.Lists.{nth}
use Rattle.base.specs.Checks.{refused, lent_after, outside}
use Rattle.base.specs.Refusals.{number_of}
use Rattle.base.specs.declared.refusal.Refusal.{Refusal}
use Rattle.base.proofs.Refusals.{is-refused}
use Rattle.base.proofs.Orders.{tested, none_left, over-stops, over-passes, refused-lent, accepted-lent}
use Rattle.theory.specs.Walks.{start_at, stopped}
use Rattle.formats.specs.Versions.{budgets_in}
use Rattle.formats.specs.BoundedSheet.{Heading, entries_in}
use Rattle.formats.specs.Rule11.{bounded_order, bounded_refusal}
use Rattle.formats.proofs.RuleKept.{bounded-numbered}
use Rattle.bounded_check.specs.Ruled.{IsRuled}
use Rattle.calls.specs.Moves.{Budgeted, budgeted}
use Rattle.calls.specs.Starts.{enters_at, NumberOn, bounded_start_order, bounded_start}

module _ (t : List ℕ) (s : Budgeted) (k : ℕ) where
  abbrev input : NumberOn
  input = record { sheet = t; number = k }

  -- the walk that is set
  abbrev new : Budgeted
  new = budgeted k (enters_at (nth (entries_in t) k))

  -- an answer and a walk are those of the call
  abbrev pub Begins : ℕ → Budgeted → Type 0
  Begins a s' = (a ≡ (bounded_start t s k).answer) × (s' ≡ (bounded_start t s k).after)

  begins : (a : ℕ) {s' : Budgeted} → refused bounded_start_order input ≡ a → s' ≡ lent_after a s new → Begins a s'
  unfolding bounded_start
  begins a e p = (sym e, p ∙ ap (λ (x : ℕ). lent_after x s new) (sym e))

  pub rule-refused : (r : Refusal) → number_of r ≡ bounded_refusal t → Begins (number_of r) s
  unfolding bounded_start_order bounded_refusal
  rule-refused r q =
      begins (number_of r) (over-stops (λ (i : NumberOn). i.sheet) bounded_order _ input (λ z. is-refused r (q ∙ z)) ∙ sym q)
      (refused-lent s new (number_of r) (is-refused r))

  -- on a sheet that keeps rule 11, with the budget's number, as it is tested
  module _ {h : Heading} {bs es : List ℕ} (S : IsRuled h bs es t) {p : Bool} (P : p ≡ outside 1 (length bs) k) where
    numbered : {c : Bool} → p ≡ c → outside 1 (length (budgets_in t)) k ≡ c
    numbered z = ap (λ (l : List ℕ). outside 1 (length l) k) (sym S.listed.budgets) ∙ sym P ∙ z

    behind : (c : ℕ) → refused ((33, λ (i : NumberOn). outside 1 (length (budgets_in i.sheet)) i.number) ∷ []) input ≡ c
        → refused bounded_start_order input ≡ c
    unfolding bounded_start_order bounded_refusal
    behind c e = over-passes (λ (i : NumberOn). i.sheet) bounded_order _ input bounded-numbered S.kept ∙ e

    pub number-refused : p ≡ true → Begins 33 s
    number-refused z = begins 33 (behind 33 (tested 33 _ [] input (numbered z) refl)) (refused-lent s new 33 (λ e. omega arith))

    -- e is the budget's entry
    module _ (z : p ≡ false) {e : ℕ} (q : e ≡ nth (entries_in t) k) where
      sets : {s' : Budgeted} → s' ≡ budgeted k (enters_at e) → Begins 0 s'
      sets p =
          begins 0 (behind 0 (tested 33 _ [] input (numbered z) (none_left input)))
          (accepted-lent s new (p ∙ ap (λ (x : ℕ). budgeted k (enters_at x)) q))

      pub stops : e ≡ 0 → {s' : Budgeted} → s' ≡ budgeted k stopped → Begins 0 s'
      unfolding enters_at
      stops o p = sets (p ∙ ap (λ (x : ℕ). budgeted k (enters_at x)) (sym o))

      pub goes : (e ≡ 0 → ⊥) → {s' : Budgeted} → s' ≡ budgeted k (start_at e) → Begins 0 s'
      unfolding enters_at
      goes n p = sets (p ∙ ap (budgeted k) (sym (entered e n)))
        where
          entered : (x : ℕ) → (x ≡ 0 → ⊥) → enters_at x ≡ start_at x
          entered zero n = absurd (n refl)
          entered (suc x) n = refl
