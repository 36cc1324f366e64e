-- The rows are as long as they must be.
use Rattle.std.proofs.Common.{ℕ, sym}
use lib.ListN.{length-replicate}
use Rattle.encode.proofs.encode.Goals as goal

pub encode_in_rows-requires : goal.encode_in_rows-requires
encode_in_rows-requires g c = record { out_len = length-replicate {A = ℕ} 524288 0; said_len = length-replicate {A = ℕ} 62 0 }

pub slice_bounds-encode_in_rows-end : goal.slice_bounds-encode_in_rows-end
slice_bounds-encode_in_rows-end g c = sym (length-replicate {A = ℕ} 524288 0)
