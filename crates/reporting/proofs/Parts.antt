-- The closing parts that were written, one after the other.
-- Rests on stream Ending, specs Printed.
use Rattle.std.proofs.Common.{◌≡◌, List, ℕ, subst}
use Rattle.std.specs.Prelude.{Option}
use Rattle.std.specs.Io.KnownBytes.{Appends}
use Rattle.catalogue.specs.declared.Part.{Part}
use Rattle.stream.specs.declared.Closing.{Closing}
use Rattle.stream.specs.Ending.{Closed}
use Rattle.unused.specs.Marks.{Marks}

-- where what was handed back before the first was written, so was what was handed back before c
abbrev pub PartsPrinted : Option (List ℕ) → Closing → Marks → Option (List ℕ) → Closing → Type 0
PartsPrinted old first marks now c =
    (xs said : List ℕ) (before : Option (List ℕ)) → Closed xs said first marks → Appends before old said
    → (all : List ℕ) × Closed xs all c marks × Appends before now all

-- before a part
pub closed_at : {xs said : List ℕ} {c : Closing} {next : Option Part} {marks : Marks} → c.next ≡ next → Closed xs said c marks
    → Closed xs said (record { tally = c.tally; next = next }) marks
closed_at {xs} {said} {c} {marks = marks} e C = subst (λ (n : Option Part). Closed xs said (record { tally = c.tally; next = n }) marks) e C
