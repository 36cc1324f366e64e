-- What rule 11 gives, number by number, behind any header: every word of a listing is small, and the chains hold each edge once.
-- Rests on base Lists, formats Rule11, RuleKept, RuleWords and RuleRead, copy_line Line.
use mathlib.Core.Path.{◌≡◌, refl, ap, ◌∙◌}
use mathlib.Core.List.{List, Memᴰ}
use Prim.Native.Nat.{ℕ, ◌≤◌}
use native.Mathlib.Omega.{arith}
use native.Mathlib.Decide.{ℕ_discrete}
use lib.ListN.{length}
use Rattle.base.specs.Lists.{each, from}
use Rattle.base.proofs.Lists.{from-i, from-length}
use Rattle.formats.specs.Limits.{most_blocks, most_copies}
use Rattle.formats.specs.BoundedSheet.{Heading, block_at, low_at, copy_at, chain_at, targets_at}
use Rattle.formats.specs.Rule11.{start_count, Ruled}
use Rattle.formats.proofs.RuleKept.{RowFits}
use Rattle.formats.proofs.RuleWords.{row_at, rows}
use Rattle.formats.proofs.RuleRead.{met-is, chain-inside, rows-length, row_fits}
use Rattle.copy_line.specs.Line.{Readable}

module _ (h : Heading) (s : List ℕ) (R : Ruled h s) where
  pub all_edges : length (each (chain_at h s) (from 1 h.copies)) ≡ h.edges
  all_edges = ap length (met-is h s R) ∙ from-length h.edges 1

  pub readable : Readable s h.records h.copies h.edges
  readable = record { size = omega (arith, R.form.size); inside = λ i p q. chain-inside h s R p q refl }

  module _ (i : ℕ) (p : 1 ≤ i) (q : i ≤ h.copies) where
    fits : RowFits (length (rows h s)) (start_count h s) h.largest (row_at h s i)
    fits = row_fits h s R i (from-i h.copies 1 i p (omega arith))

    pub block-most : block_at h s i ≤ most_blocks
    unfolding row_at copy_at
    block-most = fits.block.1

    pub low-most : low_at h s i ≤ h.largest
    unfolding row_at copy_at
    low-most = fits.low

    -- a target is 0 or a copy
    pub target-most : (t : ℕ) → Memᴰ t (targets_at h s i) → t ≤ most_copies
    unfolding row_at
    target-most t m = go (ℕ_discrete t 0)
      where
        go : Dec (t ≡ 0) → t ≤ most_copies
        go (yes z) = omega arith
        go (no n) = omega (arith, (fits.targets t m n).1, rows-length h s R, R.form.copies.1)
