-- The handler's cost: which budget is the smallest, what 43 leaves of the budgets once they are lowered, and the conditions with it and without.
-- Rests on base Truth, Lists, Numbers and Orders, Budgets, Accepted, specs Versions and GraphSheet.
use mathlib.Core.Path.{◌≡◌, refl, sym, ap, ap₂, subst, ◌∙◌}
use mathlib.Core.Bool.{Bool, true, false}
use mathlib.Core.List.Memᴰ
use mathlib.Core.List.{List, [], ◌∷◌, ◌++◌, map, Memᴰ}
use Prim.Native.Nat.{ℕ, zero, suc, ◌+◌, ◌-◌, ◌≤◌}
use native.Mathlib.Omega.{arith}
use native.Mathlib.Decide.{ℕ_discrete}
use borrow.Author.Tests.{ltb-true, ltb-false, lt-ltb, le-ltb}
use lib.Dec.{ltb}
use lib.ListN.{length, length-map}
use Rattle.base.specs.Lists.{all, rising, last_of, nth}
use Rattle.base.specs.Checks.{Order, refused, over}
use Rattle.base.proofs.Truth.{and_i, and-e}
use Rattle.base.proofs.Numbers.{nth_in, nth-map, last-map, first-least}
use Rattle.base.proofs.Orders.{Numbered, unrefused, tested, append-stops, append-passes, append-e, over-is, over-e, over-stops, over-passes}
use Rattle.formats.specs.Limits.{most_budget}
use Rattle.formats.specs.Versions.{budgets_in, smallest_in, lowered, bad_handler, Claimed}
use Rattle.formats.specs.GraphSheet.{length_order, counts_order, size_order, budget_order, cost_order, edge_order, sheet_order, sheet_refusal}
use Rattle.formats.specs.GraphSheet.{Handled, handler_order, handled_order, handled_refusal}
use Rattle.formats.proofs.Budgets.{largest-small}
use Rattle.formats.proofs.Accepted.{Accepted, accepted}

-- THE SMALLEST of budgets that 4 and 41 let pass: it is one of them, and none is below it
module _ {bs : List ℕ} (C : Claimed bs) where
  pub smallest-named : Memᴰ (nth bs 1) bs
  smallest-named = nth_in bs 1 (omega arith) (omega (arith, C.count))

  pub smallest-least : (b : ℕ) → Memᴰ b bs → nth bs 1 ≤ b
  smallest-least = first-least bs C.rise

-- LOWERED BUDGETS
-- so many, and the largest of them is the largest, lowered
pub lowered-count : (h : ℕ) (bs : List ℕ) → length (lowered h bs) ≡ length bs
unfolding lowered
lowered-count h bs = length-map bs (λ b. b - h)

pub lowered-last : (h : ℕ) (bs : List ℕ) → last_of (lowered h bs) ≡ last_of bs - h
unfolding lowered last_of
lowered-last h [] = omega arith
lowered-last h (b ∷ bs) = last-map (λ b. b - h) (b ∷ bs) (omega arith)

-- by nothing
pub lowered-zero : (bs : List ℕ) → lowered 0 bs ≡ bs
unfolding lowered
lowered-zero [] = refl
lowered-zero (b ∷ bs) = let e : b - 0 ≡ b = omega arith in ap₂ (λ (x : ℕ) (xs : List ℕ). x ∷ xs) e (lowered-zero bs)

-- the k-th is the k-th, lowered
pub lowered-nth : (h : ℕ) (bs : List ℕ) (k : ℕ) → 1 ≤ k → k ≤ length bs → nth (lowered h bs) k ≡ nth bs k - h
unfolding lowered
lowered-nth h bs k p q = nth-map (λ b. b - h) bs k p q

lowered-rise : (h : ℕ) (bs : List ℕ) → ((b : ℕ) → Memᴰ b bs → h ≤ b) → rising bs ≡ true → rising (lowered h bs) ≡ true
unfolding lowered rising
lowered-rise h [] l r = refl
lowered-rise h (b ∷ []) l r = refl
lowered-rise h (b ∷ c ∷ bs) l r =
    let q = and-e (ltb b c) (rising (c ∷ bs)) r in
    let p = ltb-true b c q.0 in
    and_i (lt-ltb (b - h) (c - h) (omega (arith, l b (Memᴰ.head refl))))
    (lowered-rise h (c ∷ bs) (λ x m. l x (Memᴰ.tail m)) q.1)

-- WHAT 43 LEAVES: budgets that h is not above, each lowered by all of h, and still within their limits and rising
module _ (h : ℕ) {bs : List ℕ} (C : Claimed bs) (fair : h ≤ nth bs 1) where
  pub each-above : (b : ℕ) → Memᴰ b bs → h ≤ b
  each-above b m = omega (arith, smallest-least C b m)

  pub lowered-exactly : (k : ℕ) → 1 ≤ k → k ≤ length bs → nth (lowered h bs) k + h ≡ nth bs k
  lowered-exactly k p q = omega (arith, lowered-nth h bs k p q, each-above (nth bs k) (nth_in bs k p q))

  pub lowered-claimed : Claimed (lowered h bs)
  unfolding lowered
  lowered-claimed = record {
    count = omega (arith, C.count, lowered-count h bs);
    small = λ b m. let x = Memᴰ.of_map (λ b. b - h) bs m in omega (arith, C.small x.0 x.1, x.2);
    rise = lowered-rise h bs each-above C.rise;
  }

-- THE CONDITIONS with a handler's cost: those without it, and 43
module _ (w : List ℕ) (h : ℕ) where
  abbrev i : Handled
  i = record { sheet = w; handler = h }

  abbrev sheet-of : Handled → List ℕ
  sheet-of i = i.sheet

  -- 1 to 4 and 41, and 5 to 8
  abbrev first : Order (List ℕ)
  first = length_order ++ counts_order ++ size_order ++ budget_order

  abbrev last : Order (List ℕ)
  last = cost_order ++ edge_order

  first-numbered : Numbered first
  unfolding all
  first-numbered = refl

  two-pass : sheet_refusal w ≡ 0 → (refused first w ≡ 0) × (refused last w ≡ 0)
  unfolding sheet_refusal sheet_order
  two-pass e = append-e first last w first-numbered e

  pub handled-e : handled_refusal w h ≡ 0 → (sheet_refusal w ≡ 0) × (h ≤ smallest_in w)
  unfolding handled_refusal handled_order sheet_refusal sheet_order bad_handler over
  handled-e e =
      let a = over-e sheet-of first (handler_order ++ over sheet-of last) i first-numbered e in
      let b = unrefused 42 (λ i. bad_handler i.handler i.sheet) (over sheet-of last) i a.1 in (
        append-passes first last w first-numbered a.0 ∙ sym (over-is sheet-of last i) ∙ b.1,
        ltb-false (smallest_in w) h b.0,
      )

  pub handled-i : sheet_refusal w ≡ 0 → h ≤ smallest_in w → handled_refusal w h ≡ 0
  unfolding handled_refusal handled_order bad_handler over
  handled-i e l =
      let a = two-pass e in
      over-passes sheet-of first (handler_order ++ over sheet-of last) i first-numbered a.0
      ∙ tested 43 (λ i. bad_handler i.handler i.sheet) (over sheet-of last) i (le-ltb (smallest_in w) h l) (over-is sheet-of last i ∙ a.1)

-- A SHEET THAT IS ACCEPTED WITH A HANDLER'S COST: an accepted sheet, whose budgets keep their limits once they are lowered
pub record AcceptedWith (w : List ℕ) (h : ℕ) : Type 0 where
  pub sheet : Accepted w
  pub fair : h ≤ smallest_in w
  pub claims : Claimed (lowered h (budgets_in w))
  pub budget : last_of (lowered h (budgets_in w)) ≤ most_budget

pub accepted-with : (w : List ℕ) (h : ℕ) → handled_refusal w h ≡ 0 → AcceptedWith w h
accepted-with w h e =
    let a = handled-e w h e in
    let A = accepted w a.0 in
    let C = lowered-claimed h A.claims a.1 in
    record { sheet = A; fair = a.1; claims = C; budget = largest-small C }

-- no condition is numbered 0
pub handled-numbered : Numbered handled_order
unfolding all over handled_order
handled-numbered = refl

-- without a handler's cost they are those of the sheet alone
pub handled-zero : (w : List ℕ) → handled_refusal w 0 ≡ sheet_refusal w
unfolding handled_refusal handled_order sheet_refusal sheet_order bad_handler over
handled-zero w = go (ℕ_discrete (refused (first w 0) w) 0)
  where
    go : Dec (refused (first w 0) w ≡ 0) → handled_refusal w 0 ≡ sheet_refusal w
    go (yes e) =
        over-passes (sheet-of w 0) (first w 0) (handler_order ++ over (sheet-of w 0) (last w 0)) (i w 0) (first-numbered w 0) e
        ∙ tested 43 (λ i. bad_handler i.handler i.sheet) (over (sheet-of w 0) (last w 0)) (i w 0) (le-ltb (smallest_in w) 0 (omega arith))
        (over-is (sheet-of w 0) (last w 0) (i w 0))
        ∙ sym (append-passes (first w 0) (last w 0) w (first-numbered w 0) e)
    go (no n) =
        over-stops (sheet-of w 0) (first w 0) (handler_order ++ over (sheet-of w 0) (last w 0)) (i w 0) n
        ∙ sym (append-stops (first w 0) (last w 0) w n)
