-- The clauses of rule 11 on the entries.
-- Rests on formats BoundedSheet and Rule11.
use Rattle.std.specs.Prelude.{Bool, ◌||◌, List, ℕ}
use Rattle.formats.specs.BoundedSheet.{Heading}
use Rattle.formats.specs.Rule11.{bad_entries, no_last_entry, unnamed_start}

-- of the budgets bs and the entries es
unfoldable pub bad_entry_words : Heading → List ℕ → List ℕ → List ℕ → Bool
bad_entry_words h s bs es = bad_entries h s bs es || (no_last_entry h s bs es || unnamed_start h s bs es)
