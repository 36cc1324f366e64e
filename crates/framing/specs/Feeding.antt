-- What the functions of this crate promise: a sheet's line, one byte more.
-- Rests on formats Limits, file_words Longer, tally, catalogue Standing, Came.
use Rattle.std.specs.Prelude.{◌≡◌, true, List, [], ◌∷◌, ◌++◌, ℕ, ◌≤◌, ◌<◌, ltb, length, take, drop, if◌then◌else◌, Some}
use Rattle.formats.specs.Limits.{most_sheets}
use Rattle.file_words.specs.Longer.{longer_file}
use Rattle.tally.specs.declared.Tally.{Tally}
use Rattle.catalogue.specs.declared.Handed.{Handed}
use Rattle.catalogue.specs.Standing.{Ready, Next}
use Rattle.framing.specs.declared.Progress.{Progress}
use Rattle.framing.specs.declared.Frame.{Frame}
use Rattle.framing.specs.declared.Frame.TheVariants.{Between, Half, Within, Full}
use Rattle.framing.specs.Came.{may_come, Came}
use Rattle.unused.specs.Marks.{Marks}

-- how many bytes of a sheet the row has
abbrev pub counted : Frame → ℕ
counted Between = 0
counted (Half low) = 0
counted (Within left count) = count
counted Full = 0

-- a catalogue that came as far as the first byte of a length, or into a sheet
abbrev pub half_of : Tally → ℕ → Progress
half_of t low = record { tally = t; frame = Half low }

abbrev pub within_of : Tally → ℕ → ℕ → Progress
within_of t left count = record { tally = t; frame = Within left count }

-- the rows are as large as they must be, and a sheet that is still to come has a place
pub record Able (s : Progress) (row : List ℕ) (marks : Marks) : Type 0 where
  pub ready : Ready s.tally marks
  pub size : length row ≡ longer_file
  pub kept : counted s.frame ≤ length row
  pub next : may_come s.frame ≡ true → s.tally.place < most_sheets

-- a sheet that came whole has its line; what comes then is a length
pub record Closes (bs : List ℕ) (t : Tally) (marks : Marks) (text : List ℕ) (r : Handed Progress) (marks' : Marks) (text' : List ℕ) : Type 0 where
  pub line : Next (Some bs) t marks (record { tally = r.now.tally; size = r.size; more = may_come r.now.frame }) marks' text text'
  pub frame : r.now.frame ≡ (if ltb r.now.tally.place most_sheets then Between else Full)

-- the bytes xs came, and what is handed back for the last of them stands in the front of a text; the rest of the text is as it was
pub record Handing (xs said text : List ℕ) (r : Handed Progress) (row : List ℕ) (marks : Marks) (after : List ℕ) : Type 0 where
  pub came : Came xs (said ++ take r.size after) r.now row marks
  pub behind : drop r.size after ≡ drop r.size text

-- THE NEXT BYTE
abbrev pub Feeds : ℕ → Progress → List ℕ → Marks → List ℕ → Handed Progress → List ℕ → Marks → List ℕ → Type 0
Feeds b s row marks text r row' marks' text' =
    (xs said : List ℕ) → Came xs said s row marks → Handing (xs ++ (b ∷ [])) said text r row' marks' text'
