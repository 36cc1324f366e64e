-- A report names the sheet with the greatest copies to blocks: its figures are fractions, since a sheet with copies has blocks.
-- Rests on formats Greatest, Unused.
use mathlib.Core.Path.{◌≡◌, refl, subst}
use mathlib.Core.List.Memᴰ
use mathlib.Core.List.{List, map}
use mathlib.Core.Option.{Option, some, none}
use Prim.Native.Nat.{ℕ, ◌≤◌}
use native.Mathlib.Omega.{arith}
use native.Mathlib.Decide.{ℕ_discrete}
use Rattle.base.specs.Checks.{refused}
use Rattle.formats.specs.Report.{Figures, refused_as, no_most, most, Greatest}
use Rattle.formats.proofs.Greatest.{greatest}
use Rattle.calls.specs.Program.{listing_order}
use Rattle.calls.specs.Report.{sheet_figures, figures}
use Rattle.calls.proofs.Unused.{sheet-accepted, sheet-refused, some-figures}

-- a refused sheet has neither
divides : (o : Option (List ℕ)) → 1 ≤ (figures o).copies → 1 ≤ (figures o).blocks
unfolding figures refused_as
divides none l = absurd (omega arith)
divides (some w) l = go (ℕ_discrete (refused listing_order w) 0) l
  where
    go : Dec (refused listing_order w ≡ 0) → 1 ≤ (sheet_figures w).copies → 1 ≤ (sheet_figures w).blocks
    go (yes e) = rw (sheet-accepted w e) (λ l. (some-figures w e).0)
    go (no n) = rw (sheet-refused w _ refl n) (λ l. absurd (omega arith))

-- of the sheets of any catalogue
pub report-greatest : (os : List (Option (List ℕ))) → Greatest (map figures os) (most no_most 1 (map figures os))
report-greatest os = greatest (map figures os) (λ f m.
    let r = Memᴰ.of_map figures os m in subst (λ (f : Figures). 1 ≤ f.copies → 1 ≤ f.blocks) r.2 (divides r.0))
