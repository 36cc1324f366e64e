-- What a failure leaves: of the output, that each byte came up to the one for which nothing could be written; of the input, that what was
-- handed back for all that came was written.
-- Rests on framing Came and Feeding, specs Taken and Printed.
use Rattle.std.specs.Prelude.{List, ℕ, take, Option}
use Rattle.std.specs.Io.KnownBytes.{Consumes}
use Rattle.framing.specs.declared.Progress.{Progress}
use Rattle.framing.specs.Feeding.{Able}
use Rattle.reporting.specs.Taken.{Takes}
use Rattle.reporting.specs.Printed.{Printed}
use Rattle.unused.specs.Marks.{Marks}

-- the rows stand as some progress has them
pub record Stood (row : List ℕ) (marks : Marks) : Type 0 where
  pub progress : Progress
  pub able : Able progress row marks

-- THE OUTPUT FAILED: the first bytes of a piece came
pub record Unwritten (bytes : List ℕ) (s : Progress) (row : List ℕ) (marks : Marks) (row' : List ℕ) (marks' : Marks) : Type 0 where
  pub count : ℕ
  pub progress : Progress
  pub able : Able progress row' marks'
  pub takes : Takes (take count bytes) s row marks progress row' marks'

-- THE INPUT FAILED: the bytes before came, they were taken from the reader, and what was handed back for them was written
pub record Unread (old new before now : Option (List ℕ)) (row : List ℕ) (marks : Marks) : Type 0 where
  pub progress : Progress
  pub able : Able progress row marks
  pub came : List ℕ
  pub printed : Printed came before now progress row marks
  pub taken : Consumes old new came
