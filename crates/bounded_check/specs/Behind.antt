-- The clauses of rule 11 behind the header, for any header.
-- Rests on formats Versions, BoundedSheet and Rule11, record_check Records, entry_check Entries.
use Rattle.std.specs.Prelude.{Bool, ◌||◌, List, ℕ}
use Rattle.formats.specs.Versions.{budgets_in}
use Rattle.formats.specs.BoundedSheet.{Heading, entries_in}
use Rattle.formats.specs.Rule11.{not_one_of, bad_exit, start_count}
use Rattle.record_check.specs.Records.{bad_records}
use Rattle.entry_check.specs.Entries.{bad_entry_words}

-- the clauses on the exit
unfoldable pub bad_exits : Heading → List ℕ → Bool
bad_exits h s = not_one_of h s 2 || bad_exit h s

unfoldable pub bad_behind : Heading → List ℕ → Bool
bad_behind h s = bad_records h s (start_count h s) || (bad_exits h s || bad_entry_words h s (budgets_in s) (entries_in s))
