-- The row is as long as it must be.
use Rattle.std.proofs.Common.{ℕ}
use lib.ListN.{length-replicate}
use Rattle.reading.proofs.keeping.Reading.new.Goals as goal

pub begun-requires : goal.begun-requires
begun-requires c = length-replicate {A = ℕ} 524288 0
