-- The clauses of rule 11 on all copies, by themselves and in their order, and on the edges, their order and their targets.
-- Rests on base Lists and Checks, formats BoundedSheet and Rule11.
use Rattle.std.specs.Prelude.{Bool, ◌&&◌, ◌||◌, not, List, ℕ, suc, eqb}
use Rattle.base.specs.Lists.{any, from}
use Rattle.base.specs.Checks.{outside}
use Rattle.formats.specs.BoundedSheet.{Heading, target_at}
use Rattle.formats.specs.Rule11.{bad_blocks, bad_lows, bad_copy_order, bad_edge_order}

-- a target that is neither 0 nor one of n copies behind the first k
unfoldable pub is_stray : ℕ → ℕ → ℕ → Bool
is_stray k n t = not (eqb t 0) && outside (suc k) n t

-- where the first k copies may be no targets; rule 11 says so of as many as there are start copies
module _ (h : Heading) (s : List ℕ) (k : ℕ) where
  unfoldable pub bad_edges : Bool
  bad_edges = bad_edge_order h s || any (λ e. is_stray k h.copies (target_at h s e)) (from 1 h.edges)

  unfoldable pub bad_records : Bool
  bad_records = bad_blocks h s || (bad_lows h s || (bad_copy_order h s || bad_edges))
