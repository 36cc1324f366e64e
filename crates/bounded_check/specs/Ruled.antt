-- WHAT RULE 11 LEAVES of a bounded sheet.
-- Rests on formats Versions, BoundedSheet and Rule11.
use Rattle.std.specs.Prelude.{◌≡◌, List, ℕ, ◌≤◌, length, Option, Some, None}
use Rattle.formats.specs.Versions.{budgets_in}
use Rattle.formats.specs.BoundedSheet.{Heading, heading, entries_in}
use Rattle.formats.specs.Rule11.{bounded_refusal}

-- bs and es are the row's budgets and entries, an entry for each budget
pub record Listed (w bs es : List ℕ) : Type 0 where
  pub budgets : bs ≡ budgets_in w
  pub entries : es ≡ entries_in w
  pub same : (length es ≡ length bs) × (1 ≤ length bs)

-- h is what the row's header says, the row keeps rule 11, and bs and es are its budgets and entries
pub record IsRuled (h : Heading) (bs es w : List ℕ) : Type 0 where
  pub header : h ≡ heading w
  pub kept : bounded_refusal w ≡ 0
  pub listed : Listed w bs es

-- the word of an entry, 0 where nothing fits the budget
abbrev pub entry_word : Option ℕ → ℕ
entry_word None = 0
entry_word (Some e) = e
