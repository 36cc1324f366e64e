-- THE BYTES OF A CATALOGUE THAT CAME SO FAR: whole sheets, each behind its length, and a rest that is no whole sheet yet.
-- Rests on formats Limits, File and Report, calls Report, tally, catalogue Standing.
use Rattle.std.specs.Prelude.{◌≡◌, Bool, true, false, List, [], ◌∷◌, ◌++◌, map, ℕ, ◌+◌, ◌*◌, ◌≤◌, ◌<◌, length, take}
use Rattle.std.proofs.Math.Option.{some}
use Rattle.formats.specs.Limits.{most_sheets}
use Rattle.formats.specs.File.{words_of}
use Rattle.formats.specs.Report.{Figures, sheet_line, each_sheet}
use Rattle.calls.specs.Report.{figures}
use Rattle.tally.specs.declared.Tally.{Tally}
use Rattle.catalogue.specs.Standing.{Standing}
use Rattle.framing.specs.declared.Frame.{Frame}
use Rattle.framing.specs.declared.Frame.TheVariants.{Between, Half, Within, Full}
use Rattle.framing.specs.declared.Progress.{Progress}
use Rattle.unused.specs.Marks.{Marks}

-- whole sheets, first to last: each is two bytes with its length in words, the lower byte first, and the two bytes of each of its words
pub data Whole : List ℕ → List (List ℕ) → Type 0 where
  none : Whole [] []
  more : (xs : List ℕ) (bodies : List (List ℕ)) (a b : ℕ) (body : List ℕ) → Whole xs bodies → length body ≡ 2 * (a + 256 * b)
      → Whole (xs ++ (a ∷ b ∷ body)) (bodies ++ (body ∷ []))

abbrev pub figures_of : List (List ℕ) → List Figures
figures_of bodies = map (λ body. figures (some (words_of body))) bodies

-- whole sheets came, the tally and the marks stand for them, and their lines were handed back
pub record Sheets (xs said : List ℕ) (bodies : List (List ℕ)) (t : Tally) (marks : Marks) : Type 0 where
  pub whole : Whole xs bodies
  pub stands : Standing (figures_of bodies) t marks
  pub lines : said ≡ each_sheet sheet_line 1 (figures_of bodies)

-- whether another sheet may come
abbrev pub may_come : Frame → Bool
may_come Between = true
may_come (Half low) = true
may_come (Within left count) = true
may_come Full = false

-- the rest: nothing, the first byte of a length, or a length and fewer bytes than it says, of which the row has as many as it has room for
pub data Rest (row : List ℕ) : Frame → List ℕ → Type 0 where
  between : Rest row Between []
  half : (low : ℕ) → Rest row (Half low) (low ∷ [])
  within : (left count a b : ℕ) (body : List ℕ) → length body + left ≡ 2 * (a + 256 * b) → 1 ≤ left
      → take count row ≡ take (length row) body → Rest row (Within left count) (a ∷ b ∷ body)

-- THE BYTES xs CAME, and said was handed back; after 200 sheets nothing that comes matters
pub record Came (xs said : List ℕ) (s : Progress) (row : List ℕ) (marks : Marks) : Type 0 where
  pub front : List ℕ
  pub rest : List ℕ
  pub bodies : List (List ℕ)
  pub cut : xs ≡ front ++ rest
  pub sheets : Sheets front said bodies s.tally marks
  pub going : may_come s.frame ≡ true → (length bodies < most_sheets) × Rest row s.frame rest
  pub full : may_come s.frame ≡ false → length bodies ≡ most_sheets
