-- The margins of a task's bounded sheet, by an area that stands for its completion costs, are those of its copies.
-- Rests on base Lists, theory Margins and Reach, formats Headings, calls Area, Built and Construction, tables Tables, specs Margins.
use mathlib.Core.Path.{◌≡◌, ap, ◌∙◌}
use mathlib.Core.List.{List, map}
use mathlib.Core.Option.{some}
use Prim.Native.Nat.{ℕ, suc, ◌+◌}
use native.Mathlib.Omega.{arith}
use Rattle.base.specs.Lists.{chosen, from, last_of}
use Rattle.base.specs.Copy.{Copy}
use Rattle.base.proofs.Lists.{chosen-mem, map-numbered}
use Rattle.theory.specs.Margins.{margin_of, margins_in}
use Rattle.theory.proofs.Reach.{copy-sound}
use Rattle.formats.specs.GraphSheet.{header}
use Rattle.formats.specs.BoundedSheet.{heading, copy_at}
use Rattle.formats.proofs.Headings.{largest-is}
use Rattle.calls.specs.SheetGraph.{graph, task, sheet_copies, bounded_sheet}
use Rattle.calls.specs.Area.{Table}
use Rattle.calls.proofs.Built.{Buildable, setting, budgets-back}
use Rattle.calls.proofs.Construction.{copied}
use Rattle.tables.specs.Tables.{next_in}
use Rattle.tables.proofs.Tables.{next-in}
use Rattle.margins.specs.Margins.{less_low, margin_at, margins_at}

module _ (w : List ℕ) (h : ℕ) (K : Buildable w h) {area : List ℕ} (T : Table (graph w) (header w).blocks (task w h).largest area) where
  abbrev t : List ℕ
  t = bounded_sheet w h

  bound : (heading t).largest ≡ (task w h).largest
  bound = largest-is t ∙ ap last_of (budgets-back w h K)

  -- that of the i-th record is that of the i-th copy
  one : (i : ℕ) (c : Copy) → chosen (sheet_copies w h) i ≡ some c → margin_at t area (heading t).largest (heading t).records i ≡ margin_of (task w h) c
  unfolding copy_at sheet_copies
  one i c q =
      let s = (copy-sound (setting w h K) c (chosen-mem (sheet_copies w h) i c q)).1 in
      ap (λ (b : ℕ). margin_at t area b (heading t).records i) bound
      ∙ ap (λ (d : Copy). less_low d.low (next_in (task w h).largest area d.block d.low)) ((copied w h K).record_is i c q)
      ∙ ap (less_low c.low) (next-in T c.block c.low s.place.0 s.place.1 s.small)

  pub margins-are : margins_at (bounded_sheet w h) area ≡ margins_in (task w h)
  unfolding margins_at margins_in sheet_copies
  margins-are =
      ap (λ (n : ℕ). map (margin_at t area (heading t).largest (heading t).records) (from 1 n)) (copied w h K).copies
      ∙ map-numbered (margin_at t area (heading t).largest (heading t).records) (margin_of (task w h)) 1 (sheet_copies w h)
      (λ i c q. let p : 1 + i ≡ suc i = omega arith in rw p (one (suc i) c q))
