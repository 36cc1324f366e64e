-- The edges of copies are those of their rows, however the copies are numbered.
-- Rests on theory Copies, formats BoundedSheet, calls SheetGraph, specs Rows.
use mathlib.Core.Path.{◌≡◌, refl, ap₂, ◌∙◌}
use mathlib.Core.List.{List, [], ◌∷◌, map}
use Prim.Native.Nat.{ℕ, ◌+◌}
use lib.ListN.{length, length-map}
use Rattle.base.specs.Copy.{Copy}
use Rattle.theory.specs.Completions.{Graph}
use Rattle.theory.specs.Copies.{targets, target_number}
use Rattle.formats.specs.BoundedSheet.{edge_count}
use Rattle.calls.specs.SheetGraph.{row_of, rows_of}
use Rattle.tables.specs.Rows.{edges_of}

module _ (g : Graph) where
  -- a copy has an edge for each successor of its block
  pub row-length : (cs : List Copy) (c : Copy) → length (row_of g cs c).target_words ≡ length (g.next c.block)
  unfolding row_of targets
  row-length cs c = length-map (targets g c) (target_number cs) ∙ length-map (g.next c.block) _

  counted : (cs ds : List Copy) → edge_count (map (row_of g cs) ds) ≡ edges_of g ds
  unfolding edge_count edges_of
  counted cs [] = refl
  counted cs (c ∷ ds) = ap₂ (λ (x y : ℕ). x + y) (row-length cs c) (counted cs ds)

  pub edges_are : (cs : List Copy) → edge_count (rows_of g cs) ≡ edges_of g cs
  unfolding rows_of
  edges_are cs = counted cs cs
