-- What an answer of weighing says, which are checked before 9, and how 0 comes about.
-- Rests on base Orders, formats Handler, specs Weigh.
use mathlib.Core.Path.{◌≡◌, refl, sym, ap, ◌∙◌}
use mathlib.Core.Bool.{true, false}
use mathlib.Core.List.{List, [], ◌∷◌, ◌++◌}
use mathlib.Core.Option.{Option, some, none}
use Prim.Native.Nat.{ℕ, ◌≤◌}
use native.Mathlib.Omega.{arith}
use native.Mathlib.Decide.{ℕ_discrete}
use borrow.Author.Tests.{ltb-false, le-ltb}
use lib.ListN.{length}
use Rattle.base.specs.Lists.{all, is_none, from, member}
use Rattle.base.specs.Checks.{Order, refused, over, numbers_of, numbers_before}
use Rattle.base.proofs.Truth.{not-both}
use Rattle.base.proofs.Orders.{Numbered, unrefused, passed, none_left, refused-member, append-e, append-passes, over-i, over-e, over-stops}
use Rattle.theory.specs.Completions.{low_of}
use Rattle.formats.specs.GraphSheet.{handled_order, handled_refusal}
use Rattle.formats.proofs.Handler.{handled-numbered}
use Rattle.calls.specs.SheetGraph.{task, graph}
use Rattle.calls.specs.Area.{filled}
use Rattle.calls.specs.Weigh.{Weighing, handled, task_of, task_area, small_area, nothing_fits, area_order, fit_order, front_order, weigh_order}
use Rattle.calls.specs.Weigh.{before_weighing, area_after}

-- no number of the order is 0
pub weigh-numbered : Numbered weigh_order
unfolding all over handled_order front_order weigh_order
weigh-numbered = refl

pub some-low : (o : Option ℕ) → is_none o ≡ false → (a : ℕ) × (o ≡ some a)
unfolding is_none
some-low none e = absurd (let z : ◌≡◌ {A = ℕ} 0 1 = cc in omega arith)
some-low (some a) e = (a, refl)

-- THE NUMBERS CHECKED BEFORE 9 are 1 to 8, with 41 and 43 behind 4, and 21
pub spared : (a : ℕ) → before_weighing a ≡ member a (from 1 4 ++ (41 ∷ 43 ∷ from 5 4) ++ (21 ∷ []))
unfolding over numbers_of numbers_before from handled_order front_order weigh_order before_weighing
spared a = refl

-- the area under any other answer is filled
pub late-area : (w : List ℕ) (h : ℕ) (area : List ℕ) (a : ℕ) → before_weighing a ≡ false
    → filled (graph w) (task w h).blocks (task w h).largest area ≡ area_after (task w h) a area
unfolding area_after
late-area w h area a late = rw (late, area_after)

-- the part of the order before 9
pub front-numbered : Numbered front_order
unfolding all over handled_order front_order
front-numbered = refl

front-numbers : (a : ℕ) → member a (numbers_of front_order) ≡ before_weighing a
unfolding over numbers_of numbers_before handled_order front_order weigh_order before_weighing
front-numbers a = refl

-- its numbers are those before 9, and it passes where the sheet does and the area has room
pub front-early : (i : Weighing) → (refused front_order i ≡ 0 → ⊥) → before_weighing (refused front_order i) ≡ true
front-early i n = sym (front-numbers (refused front_order i)) ∙ refused-member front_order i n

abbrev Passes : Weighing → Type 0
Passes i = (handled_refusal i.sheet i.handler ≡ 0) × (task_area (task_of i) ≤ length i.area)

pub front-passes : (i : Weighing) → refused front_order i ≡ 0 → (handled_refusal i.sheet i.handler ≡ 0) × (task_area (task_of i) ≤ length i.area)
unfolding front_order handled_refusal small_area
front-passes i e =
    let o = over-e handled handled_order area_order i handled-numbered e in
    let a = unrefused 20 small_area [] i o.1 in
    (o.0, ltb-false (length i.area) (task_area (task_of i)) a.0)

-- an answer that is not one of them: the sheet passes, with area enough, whatever stands behind in the order
module _ {J : Type 0} (f : J → Weighing) (qs : Order J) (j : J) where
  behind-front : over f weigh_order ++ qs ≡ over f front_order ++ ((9, λ j. nothing_fits (task_of (f j))) ∷ qs)
  unfolding over handled_order weigh_order front_order
  behind-front = refl

  pub weighs-late : before_weighing (refused (over f weigh_order ++ qs) j) ≡ false
      → (handled_refusal (f j).sheet (f j).handler ≡ 0) × (task_area (task_of (f j)) ≤ length (f j).area)
  weighs-late late = go (ℕ_discrete (refused front_order (f j)) 0)
    where
      go : Dec (refused front_order (f j) ≡ 0) → Passes (f j)
      go (yes e) = front-passes (f j) e
      go (no n) =
          let q : refused (over f weigh_order ++ qs) j ≡ refused front_order (f j)
          = ap (λ (o : Order J). refused o j) behind-front ∙ over-stops f front_order ((9, λ j. nothing_fits (task_of (f j))) ∷ qs) j n in
          absurd (not-both (front-early (f j) n) (sym (ap before_weighing q) ∙ late))

-- a sheet that passes with the handler's cost h, with area enough, and what its largest budget leaves block 1
pub record Passed (w : List ℕ) (h : ℕ) (area : List ℕ) : Type 0 where
  pub ok : handled_refusal w h ≡ 0
  pub room : task_area (task w h) ≤ length area
  pub start : ℕ
  pub opens : low_of (graph w) 1 (task w h).largest ≡ some start

pub weighs-e : (i : Weighing) → refused weigh_order i ≡ 0 → Passed i.sheet i.handler i.area
unfolding weigh_order nothing_fits
weighs-e i e =
    let o = append-e front_order fit_order i front-numbered e in
    let p = front-passes i o.0 in
    let l = some-low _ (unrefused 8 _ [] i o.1).0 in
    record { ok = p.0; room = p.1; start = l.0; opens = l.1 }

-- the front passes, and then 9 decides
module _ (w : List ℕ) (h : ℕ) (area : List ℕ) (ok : handled_refusal w h ≡ 0) (room : task_area (task w h) ≤ length area) where
  abbrev x : Weighing
  x = record { sheet = w; handler = h; area = area }

  pub front-is : refused front_order (record { sheet = w; handler = h; area = area }) ≡ 0
  unfolding front_order handled_refusal small_area
  front-is =
      over-i handled handled_order area_order x handled-numbered ok
      (passed 21 small_area [] x (le-ltb (length area) (task_area (task w h)) room) (none_left x))

  pub weighs : (a : ℕ) → low_of (graph w) 1 (task w h).largest ≡ some a → refused weigh_order (record { sheet = w; handler = h; area = area }) ≡ 0
  unfolding weigh_order nothing_fits is_none
  weighs a low =
      append-passes front_order fit_order x front-numbered front-is ∙ passed 9 (λ i. nothing_fits (task_of i)) [] x (ap is_none low) (none_left x)
