-- What a tally and a row of marks stand for: the figures of the sheets so far; and what one sheet more makes of them.
-- Rests on base Lists, formats Limits, File and Report, calls Report, file_words Longer, digits Wrote, unused Marks, tally Tallies.
use Rattle.std.specs.Prelude.{◌≡◌, ◌&&◌, not, List, [], ◌∷◌, ◌++◌, ℕ, suc, ◌*◌, ◌≤◌, ltb, length, take, drop, Some, None, is_none}
use Rattle.std.specs.Prelude.{Option as Bytes}
use Rattle.std.proofs.Math.Option.{Option, some, none}
use Rattle.base.specs.Lists.{chosen}
use Rattle.formats.specs.Limits.{most_blocks, most_sheets}
use Rattle.formats.specs.File.{words_of}
use Rattle.formats.specs.Report.{Figures, sheet_line, no_sums, sums, no_most, most}
use Rattle.calls.specs.Report.{figures}
use Rattle.file_words.specs.Longer.{longer_file}
use Rattle.digits.specs.Wrote.{Wrote}
use Rattle.unused.specs.Marks.{Marks, marked_blocks}
use Rattle.tally.specs.declared.Tally.{Tally}
use Rattle.tally.specs.Tallies.{sums_of, most_from, Fits}
use Rattle.catalogue.specs.declared.Step.{Step}

-- no more sheets than a catalogue may have, and a mark for each block of each
pub record Ready (t : Tally) (marks : Marks) : Type 0 where
  pub most : t.place ≤ most_sheets
  pub fits : Fits t
  pub room : length marks ≡ most_sheets * most_blocks

-- the marks of the sheet at place i + 1
abbrev pub marks_of : ℕ → Marks → Marks
marks_of i marks = take most_blocks (drop (i * most_blocks) marks)

-- fs are the figures of the sheets so far
pub record Standing (fs : List Figures) (t : Tally) (marks : Marks) : Type 0 where
  pub place : t.place ≡ length fs
  pub summed : sums_of t ≡ sums no_sums fs
  pub greatest : most_from t.most ≡ most no_most 1 fs
  pub unused : (i : ℕ) (f : Figures) → chosen fs (suc i) ≡ some f → marked_blocks (marks_of i marks) ≡ f.unused

-- a sheet of a catalogue, by as much of its bytes as is read: none where its length was beyond the words left
pub data Front : Bytes (List ℕ) → Option (List ℕ) → Type 0 where
  beyond : Front None none
  whole : (fs : List ℕ) → Front (Some (take longer_file fs)) (some (words_of fs))

-- ONE SHEET MORE: its line, written into a row, what the tally and the marks stand for then, and whether another sheet may come
pub record Next (bytes : Bytes (List ℕ)) (t : Tally) (old : Marks) (r : Step) (new : Marks) (row text : List ℕ) : Type 0 where
  pub line : (fs : List Figures) (o : Option (List ℕ)) → Standing fs t old → Front bytes o
      → Wrote row 0 (sheet_line (suc (length fs)) (figures o)) text r.size
  pub after : (fs : List Figures) (o : Option (List ℕ)) → Standing fs t old → Front bytes o
      → Standing (fs ++ (figures o ∷ [])) r.tally new
  pub more : r.more ≡ (not (is_none bytes) && ltb r.tally.place most_sheets)
