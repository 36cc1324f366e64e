-- FOR EVERY CATALOGUE, byte by byte: what `feed_byte` hands back for each, `finish` then and each `next_part`, put together, is the report of all its
-- bytes; and where no sheet may come any more, whatever would come after is not missed. Rests on calls Report, framing Came and Feeding, Ending, Ends.
use mathlib.Core.Path.{◌≡◌}
use Rattle.std.specs.Prelude.{None}
use mathlib.Core.List.{List, [], ◌∷◌, ◌++◌}
use Prim.Native.Nat.{ℕ}
use lib.ListN.{take}
use Rattle.calls.specs.Report.{report}
use Rattle.catalogue.specs.declared.Handed.{Handed}
use Rattle.framing.specs.declared.Progress.{Progress}
use Rattle.framing.specs.declared.Frame.TheVariants.{Full}
use Rattle.framing.specs.Came.{Came}
use Rattle.framing.specs.Feeding.{Feeds}
use Rattle.stream.specs.declared.Closing.{Closing}
use Rattle.stream.specs.Ending.{Closed, Finishes, Parts}
use Rattle.stream.proofs.Ends.{closed-report, ignored-rest}
use Rattle.unused.specs.Marks.{Marks}

-- the bytes xs were given, first to last, each with the state and the rows as the last call left them, and said is what was handed back
pub data Fed : List ℕ → List ℕ → Progress → List ℕ → Marks → Type 0 where
  -- `begin`
  start : {s : Progress} {row : List ℕ} {marks : Marks} → ((row : List ℕ) (marks : Marks) → Came [] [] s row marks) → Fed [] [] s row marks
  -- `feed_byte`
  more : {xs said : List ℕ} {s : Progress} {row : List ℕ} {marks : Marks} (b : ℕ) (text : List ℕ) (r : Handed Progress) (row' : List ℕ) (marks' : Marks) (text' : List ℕ)
      → Fed xs said s row marks → Feeds b s row marks text r row' marks' text'
      → Fed (xs ++ (b ∷ [])) (said ++ take r.size text') r.now row' marks'

fed-came : {xs said : List ℕ} {s : Progress} {row : List ℕ} {marks : Marks} → Fed xs said s row marks → Came xs said s row marks
fed-came (start {row = row} {marks = marks} f) = f row marks
fed-came (more {xs = xs} {said = said} b text r row' marks' text' F h) = (h xs said (fed-came F)).came

-- the input was over, and the closing parts were taken, first to last
pub data Ended : List ℕ → List ℕ → Closing → Marks → Type 0 where
  -- `finish`
  over : {xs said : List ℕ} {s : Progress} {row : List ℕ} {marks : Marks} (text : List ℕ) (r : Handed Closing) (marks' : Marks) (text' : List ℕ) → Fed xs said s row marks
      → Finishes s marks text r marks' text' → Ended xs (said ++ take r.size text') r.now marks'
  -- `next_part`
  part : {xs said : List ℕ} {c : Closing} {marks : Marks} (text : List ℕ) (r : Handed Closing) (text' : List ℕ) → Ended xs said c marks
      → Parts c marks text r text' → Ended xs (said ++ take r.size text') r.now marks

ended-closed : {xs said : List ℕ} {c : Closing} {marks : Marks} → Ended xs said c marks → Closed xs said c marks
ended-closed (over {xs = xs} {said = said} {row = row} text r marks' text' F h) = (h xs said row (fed-came F)).closed
ended-closed (part {xs = xs} {said = said} text r text' E h) = (h xs said (ended-closed E)).closed

-- until there is no next part
pub bytes-reported : {xs said : List ℕ} {c : Closing} {marks : Marks} → Ended xs said c marks → c.next ≡ None → said ≡ report xs
bytes-reported E m = closed-report (ended-closed E) m

pub nothing-missed : {xs said : List ℕ} {s : Progress} {row : List ℕ} {marks : Marks} → Fed xs said s row marks → s.frame ≡ Full → (ys : List ℕ)
    → report (xs ++ ys) ≡ report xs
nothing-missed F m ys = ignored-rest (fed-came F) m ys
