-- What is said of a sheet by the answer of its build, and the area that it leaves.
-- Rests on calls Area, Weigh, Build, Demand, Program, Report and Unused, front Answer, sheet_figures Says.
use mathlib.Core.Path.{◌≡◌, refl, sym, ap, subst, ◌∙◌}
use mathlib.Core.Bool.{false}
use mathlib.Core.List.{List}
use Prim.Native.Nat.{ℕ, ◌≤◌}
use native.Mathlib.Omega.{arith}
use lib.ListN.{length}
use Rattle.base.specs.Lists.{any, member}
use Rattle.base.specs.Checks.{refused, over, numbers_of, numbers_before}
use Rattle.formats.specs.Limits.{most_cells}
use Rattle.formats.specs.GraphSheet.{header, handled_order}
use Rattle.formats.specs.Report.{Figures, refused_as}
use Rattle.calls.specs.SheetGraph.{graph, task}
use Rattle.calls.specs.Area.{filled, Table}
use Rattle.calls.specs.Weigh.{task_area, front_order, weigh_order, before_weighing, area_after}
use Rattle.calls.specs.Build.{build, built}
use Rattle.calls.specs.Program.{listing_order}
use Rattle.calls.specs.Report.{accepted_figures, sheet_figures}
use Rattle.calls.proofs.Area.{filled-length, filled-table}
use Rattle.calls.proofs.Weigh.{late-area}
use Rattle.calls.proofs.Demand.{buildable}
use Rattle.calls.proofs.Unused.{sheet-accepted, sheet-refused}
use Rattle.front.specs.Front.{most_words}
use Rattle.front.proofs.Answer.{area-fits}
use Rattle.sheet_figures.specs.declared.Reported.{Reported}
use Rattle.sheet_figures.specs.Says.{Costs, Says}
use Rattle.unused.specs.Marks.{Marks}

late : before_weighing 0 ≡ false
unfolding any member over numbers_of numbers_before handled_order front_order weigh_order before_weighing
late = refl

-- THE AREA that a build leaves under 0 stands for the sheet's completion costs
module _ (w area out : List ℕ) (wide : most_cells ≤ length area) (long : most_words ≤ length out) where
  pub costs-left : {after : List ℕ} → after ≡ (built w 0 area out).area → (built w 0 area out).answer ≡ 0 → Costs w after
  unfolding build task_area
  costs-left {after} q e =
      let n = (header w).blocks in
      let b = (task w 0).largest in
      let room = area-fits w area out wide long (buildable _ e).ok in
      let f : filled (graph w) n b area ≡ after = late-area w 0 area 0 late ∙ ap (λ (a : ℕ). area_after (task w 0) a area) (sym e) ∙ sym q in
      record {
        room = omega (arith, ap length f, filled-length (graph w) n b area room);
        table = subst (Table (graph w) n b) f (filled-table (graph w) n b area room);
      }

-- WHAT IS SAID
module _ (w : List ℕ) {marks : Marks} {old text : List ℕ} {p : ℕ} {r : Reported} where
  pub says-accepted : refused listing_order w ≡ 0 → Says (accepted_figures w) p r marks old text → Says (sheet_figures w) p r marks old text
  says-accepted e S = subst (λ (f : Figures). Says f p r marks old text) (sym (sheet-accepted w e)) S

  pub says-refused : {n : ℕ} → refused listing_order w ≡ n → (n ≡ 0 → ⊥) → Says (refused_as n) p r marks old text
      → Says (sheet_figures w) p r marks old text
  says-refused {n} e z S = subst (λ (f : Figures). Says f p r marks old text) (sym (sheet-refused w n e z)) S
