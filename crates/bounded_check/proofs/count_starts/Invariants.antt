-- The copies of block 1 are passed one by one; the first copy of another block ends them.
use Rattle.std.proofs.Common.{◌≡◌, ℕ, ◌<◌, ◌≤◌}
use Rattle.formats.specs.BoundedSheet.{block_at}
use Rattle.bounded_records.specs.Records.{heading_in}
use Rattle.bounded_check.proofs.count_starts.Given as goal

abbrev pub invariant-loop-copy : goal.invariant-loop-copy
invariant-loop-copy l = (i : ℕ) → 1 ≤ i → i < l.copy → block_at (heading_in l.records) l.records.words.now i ≡ 1
