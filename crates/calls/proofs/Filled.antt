-- What 9 and the work area say of a sheet's completions: proved of every sheet that passes 1 to 8.
-- Rests on theory Completions, formats Accepted and Handler, SheetLaws, Area, Weigh, specs Filled.
use mathlib.Core.Path.{◌≡◌, refl, sym, ap, subst, ◌∙◌}
use mathlib.Core.Logic.{◌↔◌}
use mathlib.Core.Bool.{Bool, true, false}
use mathlib.Core.List.{List, [], ◌++◌, append-nil}
use mathlib.Core.Option.{Option, some, none}
use Prim.Native.Nat.{ℕ, ◌≤◌}
use native.Mathlib.Omega.{arith}
use lib.ListN.{length}
use Rattle.base.specs.Lists.{is_none}
use Rattle.base.specs.Checks.{Order, refused, over}
use Rattle.base.proofs.Truth.{not-both, else-false}
use Rattle.base.proofs.Orders.{over-is}
use Rattle.theory.specs.Completions.{Graph, Completion, completes, low_of}
use Rattle.theory.specs.Setting.{WellFormed}
use Rattle.theory.proofs.Completions.{completes-sound, completes-complete, low-none, no-low}
use Rattle.formats.specs.GraphSheet.{header, handled_refusal}
use Rattle.formats.proofs.Accepted.{accepted}
use Rattle.formats.proofs.Handler.{accepted-with}
use Rattle.calls.specs.SheetGraph.{task, graph}
use Rattle.calls.specs.Area.{byte_of, filled}
use Rattle.calls.specs.Weigh.{Weighing, task_of, task_area, nothing_fits, weigh_order, before_weighing, area_after, weighed}
use Rattle.calls.specs.Build.{weighing, build_order, build}
use Rattle.calls.specs.Moves.{weighing as guarded-weighing, moved, guarded_order, guarded_reply, guarded_move}
use Rattle.calls.specs.Starts.{weighing as start-weighing, guarded_start_order, guarded_start}
use Rattle.calls.specs.Filled.{NineIsExact, Holds, WeighingFills, BuildFills, MoveFills, StartFills}
use Rattle.calls.proofs.SheetLaws.{well-formed}
use Rattle.calls.proofs.Weigh.{weighs-late, late-area}
use Rattle.calls.proofs.Area.{cell-filled, rest-untouched, filled-length}

-- a look-up that finds nothing
none_of : (o : Option ℕ) → is_none o ≡ true → o ≡ none
unfolding is_none
none_of none e = refl
none_of (some a) e = absurd (not-both refl (sym e))

pub nine-is-exact : NineIsExact
unfolding nothing_fits is_none
nine-is-exact w h ok =
    let L = well-formed (header w) w (accepted w ok).sound in
    let b = (task w h).largest in
    (λ e. low-none (graph w) L 1 b (none_of (low_of (graph w) 1 b) e), λ n. ap is_none (no-low (graph w) L n))

-- a byte is that of a completion, or of none
module _ (g : Graph) (L : WellFormed g) (v c : ℕ) {x : ℕ} (e : x ≡ byte_of (completes g v c)) where
  set_is : (x ≡ 1) ↔ Completion g v c
  unfolding byte_of
  set_is = (λ p. go (completes g v c) refl (sym e ∙ p), λ d. e ∙ ap byte_of (completes-complete g L d))
    where
      go : (b : Bool) → completes g v c ≡ b → byte_of b ≡ 1 → Completion g v c
      go true q p = completes-sound g L v c q
      go false q p = absurd (omega arith)

  clear-is : (x ≡ 0) ↔ (Completion g v c → ⊥)
  unfolding byte_of
  clear-is = (
    λ p d. absurd (let z : ◌≡◌ {A = ℕ} 0 1 = sym p ∙ set_is.1 d in omega arith),
    λ n. e ∙ ap byte_of (else-false (completes g v c) (λ q. n (completes-sound g L v c q))),
  )

module _ (w : List ℕ) (h : ℕ) (area : List ℕ) (ok : handled_refusal w h ≡ 0) (room : task_area (task w h) ≤ length area) where
  abbrev n : ℕ
  n = (header w).blocks

  abbrev b : ℕ
  b = (task w h).largest

  abbrev L : WellFormed (graph w)
  L = well-formed (header w) w (accepted-with w h ok).sheet.sound

  filled-holds : Holds w h area (filled (graph w) n b area)
  unfolding task_area
  filled-holds =
      record {
        set = λ v c p q l. set_is (graph w) L v c (cell-filled (graph w) n b area room v c p q l);
        clear = λ v c p q l. clear-is (graph w) L v c (cell-filled (graph w) n b area room v c p q l);
        rest = rest-untouched (graph w) n b area room;
        size = filled-length (graph w) n b area room;
      }

-- an answer of an order that begins with weighing's, and the area after it
holds_after : {J : Type 0} (f : J → Weighing) (qs : Order J) (j : J) {a : ℕ} → a ≡ refused (over f weigh_order ++ qs) j
    → before_weighing a ≡ false
    → Holds (f j).sheet (f j).handler (f j).area (area_after (task_of (f j)) a (f j).area)
holds_after f qs j {a} e late =
    let p = weighs-late f qs j (sym (ap before_weighing e) ∙ late) in
    let w = (f j).sheet in
    let h = (f j).handler in
    subst (Holds w h (f j).area) (late-area w h (f j).area a late) (filled-holds w h (f j).area p.0 p.1)

pub weighing-fills : WeighingFills
unfolding weighed
weighing-fills i late =
    let e : refused weigh_order i ≡ refused (over (λ i. i) weigh_order ++ []) i
    = sym (over-is (λ i. i) weigh_order i) ∙ sym (ap (λ (o : Order Weighing). refused o i) (append-nil (over (λ i. i) weigh_order))) in
    holds_after (λ i. i) [] i e late

pub build-fills : BuildFills
unfolding build build_order
build-fills i late = holds_after weighing _ i refl late

pub move-fills : MoveFills
unfolding guarded_move guarded_reply guarded_order moved
move-fills w h s m late =
    holds_after guarded-weighing _ (record { sheet = w; handler = h; area = m.area; walk = s; choice = m.choice }) refl late

pub start-fills : StartFills
unfolding guarded_start guarded_start_order
start-fills w h s i late = holds_after start-weighing _ (record { sheet = w; handler = h; outset = i }) refl late
