-- What a report says of a sheet from as much of its bytes as is read.
-- Rests on formats File, calls Report, file_words Longer, sheet_figures Says.
use Rattle.std.specs.Prelude.{◌≡◌, List, ℕ, take, Option, Some, None}
use Rattle.std.proofs.Math.Option.{some, none}
use Rattle.formats.specs.File.{words_of}
use Rattle.calls.specs.Report.{figures}
use Rattle.file_words.specs.Longer.{longer_file}
use Rattle.sheet_figures.specs.declared.Reported.{Reported}
use Rattle.sheet_figures.specs.Says.{Says}
use Rattle.unused.specs.Marks.{Marks}

-- by as much of the bytes of a sheet as is read, none where its length was beyond the words left
pub record Reports (bytes : Option (List ℕ)) (p : ℕ) (r : Reported) (marks : Marks) (old text : List ℕ) : Type 0 where
  pub beyond : bytes ≡ None → Says (figures none) p r marks old text
  pub whole : (fs : List ℕ) → bytes ≡ Some (take longer_file fs) → Says (figures (some (words_of fs))) p r marks old text
