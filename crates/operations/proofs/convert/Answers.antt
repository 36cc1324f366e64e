-- The rows are as long as they must be.
use Rattle.std.proofs.Common.{ℕ, sym}
use lib.ListN.{length-replicate}
use Rattle.operations.proofs.convert.Goals as goal

pub slice_bounds-convert_in_rows-end : goal.slice_bounds-convert_in_rows-end
slice_bounds-convert_in_rows-end g c = sym (length-replicate {A = ℕ} 395782 0)
