-- What `finish` and `next_part` promise: the end of the input, a closing part more.
-- Rests on base Lists, formats File, Catalogue and Report, calls Report, catalogue Standing and Parts, framing Came.
use Rattle.std.specs.Prelude.{◌≡◌, List, ◌++◌, map, ℕ, ◌+◌, ◌<◌, take, drop, Some, IfSome}
use Rattle.base.specs.Lists.{each, from}
use Rattle.formats.specs.File.{words_of}
use Rattle.formats.specs.Catalogue.{sheets}
use Rattle.formats.specs.Report.{Figures, sheet_line, each_sheet}
use Rattle.calls.specs.Report.{figures}
use Rattle.tally.specs.declared.Tally.{Tally}
use Rattle.catalogue.specs.declared.Handed.{Handed}
use Rattle.catalogue.specs.declared.Part.{Part}
use Rattle.catalogue.specs.Standing.{Ready, Standing}
use Rattle.catalogue.specs.Parts.{place_of, parts_before, closing_part}
use Rattle.framing.specs.declared.Progress.{Progress}
use Rattle.framing.specs.Came.{Came}
use Rattle.stream.specs.declared.Closing.{Closing}
use Rattle.unused.specs.Marks.{Marks}

-- the figures of all sheets of a catalogue, by its bytes
abbrev pub all_figures : List ℕ → List Figures
all_figures xs = map figures (sheets (words_of xs))

-- the lines of all sheets, with that of one that is cut, if there is one
pub record Listed (xs said text : List ℕ) (r : Handed Tally) (marks : Marks) (after : List ℕ) : Type 0 where
  pub stands : Standing (all_figures xs) r.now marks
  pub lines : said ++ take r.size after ≡ each_sheet sheet_line 1 (all_figures xs)
  pub behind : drop r.size after ≡ drop r.size text

abbrev pub Lists : Progress → Marks → List ℕ → Handed Tally → Marks → List ℕ → Type 0
Lists s marks text r marks' text' = (xs said row : List ℕ) → Came xs said s row marks → Listed xs said text r marks' text'

-- before a part
abbrev pub closing_of : Tally → Part → Closing
closing_of t part = record { tally = t; next = Some part }

-- the marks are as many as they must be, and where there is a next closing part it is one of those of the sheets
pub record Closable (c : Closing) (marks : Marks) : Type 0 where
  pub ready : Ready c.tally marks
  pub next : IfSome c.next (λ part. place_of part < c.tally.place + 2)

-- THE INPUT xs IS OVER, and said was handed back: the lines of all its sheets and the closing parts before the next one
pub record Closed (xs said : List ℕ) (c : Closing) (marks : Marks) : Type 0 where
  pub stands : Standing (all_figures xs) c.tally marks
  pub is_said : said ≡ each_sheet sheet_line 1 (all_figures xs) ++ each (closing_part (all_figures xs)) (from 0 (parts_before c.tally.place c.next))

-- and what is handed back now stands in the front of a text; the rest of the text is as it was
pub record Parting (xs said text : List ℕ) (r : Handed Closing) (marks : Marks) (after : List ℕ) : Type 0 where
  pub closed : Closed xs (said ++ take r.size after) r.now marks
  pub behind : drop r.size after ≡ drop r.size text

-- it is told that the input is over
abbrev pub Finishes : Progress → Marks → List ℕ → Handed Closing → Marks → List ℕ → Type 0
Finishes s marks text r marks' text' = (xs said row : List ℕ) → Came xs said s row marks → Parting xs said text r marks' text'

-- one closing part more
abbrev pub Parts : Closing → Marks → List ℕ → Handed Closing → List ℕ → Type 0
Parts c marks text r text' = (xs said : List ℕ) → Closed xs said c marks → Parting xs said text r marks text'
