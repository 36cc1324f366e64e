-- THE MARGINS OF AN ACCEPTED SHEET (document 02, K5): one for each copy of its bounded sheet, in order, and each says what it should.
-- Rests on base Lists, theory Margins, formats BoundedSheet, Unused, Built, Construction.
use mathlib.Core.Path.{◌≡◌, sym, subst, ◌∙◌}
use mathlib.Core.List.{List}
use mathlib.Core.Option.{Option, some}
use Prim.Native.Nat.{ℕ}
use lib.ListN.{length}
use Rattle.base.specs.Lists.{chosen}
use Rattle.base.specs.Copy.{Copy}
use Rattle.base.specs.Checks.{refused}
use Rattle.theory.specs.Margins.{margins_in, Says}
use Rattle.theory.proofs.Margins.{margins-say, margins-count}
use Rattle.formats.specs.Versions.{largest_in}
use Rattle.formats.specs.BoundedSheet.{heading, copy_at}
use Rattle.calls.specs.SheetGraph.{graph, task, sheet_copies, bounded_sheet}
use Rattle.calls.specs.Program.{listing_order}
use Rattle.calls.proofs.SheetLaws.{largest-zero}
use Rattle.calls.proofs.Built.{Buildable, setting}
use Rattle.calls.proofs.Construction.{copied}
use Rattle.calls.proofs.Unused.{listed}

module _ (w : List ℕ) (e : refused listing_order w ≡ 0) where
  abbrev K : Buildable w 0
  K = listed w e

  pub margin-count : length (margins_in (task w 0)) ≡ (heading (bounded_sheet w 0)).copies
  unfolding sheet_copies
  margin-count = margins-count (task w 0) ∙ sym (copied w 0 K).copies

  -- the i-th margin is that of the i-th record: with so many cycles more, and no fewer, another path through the copy is within budget
  pub sheet-margins : (i : ℕ) (m : Option ℕ) → chosen (margins_in (task w 0)) i ≡ some m
      → let c = copy_at (heading (bounded_sheet w 0)) (bounded_sheet w 0) i in Says (graph w) (largest_in w) c.block c.low m
  unfolding sheet_copies
  sheet-margins i m q =
      let c = margins-say (setting w 0 K) i m q in
      subst (λ (d : Copy). Says (graph w) (largest_in w) d.block d.low m) (sym ((copied w 0 K).record_is i c.0 c.1))
      (subst (λ (b : ℕ). Says (graph w) b c.0.block c.0.low m) (largest-zero w) c.2)
