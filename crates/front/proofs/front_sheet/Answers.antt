-- The part of the row is as long as its header says.
use Rattle.std.proofs.Common.{◌≡◌, refl, Bool, true, false, List, ℕ, ◌≤◌, arith, length}
use Rattle.formats.specs.Limits.{least_words}
use Rattle.formats.specs.Versions.{is_second}
use Rattle.formats.specs.BoundedSheet.{heading, bounded_length}
use Rattle.front.proofs.front_sheet.Goals as goal

-- a row that has the words that its header says has a header
has-header : (row : List ℕ) → bounded_length (heading row) ≤ length row → least_words ≤ length row
unfolding heading
has-header row l = go (is_second row) refl
  where
    go : (v : Bool) → is_second row ≡ v → least_words ≤ length row
    go true e = let q = rw (e, heading) at l in omega arith
    go false e = let q = rw (e, heading) at l in omega arith

pub read_heading-h-requires : goal.read_heading-h-requires
read_heading-h-requires c = has-header _ c.requires
