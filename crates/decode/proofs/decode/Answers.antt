-- The rows are as long as they must be.
use Rattle.std.proofs.Common.{ℕ, sym}
use lib.ListN.{length-replicate}
use Rattle.decode.proofs.decode.Goals as goal

pub slice_bounds-decode_in_rows-end : goal.slice_bounds-decode_in_rows-end
slice_bounds-decode_in_rows-end g c = sym (length-replicate {A = ℕ} 131072 0)

pub slice_bounds-decode_in_rows-end-2 : goal.slice_bounds-decode_in_rows-end-2
slice_bounds-decode_in_rows-end-2 g c = sym (length-replicate {A = ℕ} 393210 0)
