-- The listing by its heading and its lines, and a refusal, part by part as it is written.
-- Rests on base Lists, formats Listing, digits Spaced and NumberLine, heading_line Heading, copy_line Line, specs Texts.
use mathlib.Core.Path.{◌≡◌, refl, sym, ap, ap₂, ◌∙◌}
use mathlib.Core.List.{List, [], ◌∷◌, ◌++◌}
use Prim.Native.Nat.{ℕ, ◌+◌}
use lib.ListN.{length, length-append}
use Rattle.base.specs.Lists.{each, from}
use Rattle.formats.specs.Versions.{budgets_in}
use Rattle.formats.specs.BoundedSheet.{Heading, heading, block_at, low_at, chain_at, targets_at}
use Rattle.formats.specs.Listing.{decimal, line, heading_line, copy_line, listing_of, refusal_of}
use Rattle.digits.specs.Spaced.{spaced}
use Rattle.digits.proofs.NumberLine.{newline_text, numbers-line}
use Rattle.heading_line.specs.Heading.{copies_text, edges_text, heading_text}
use Rattle.copy_line.specs.Line.{copy_text, line_at}
use Rattle.text.specs.Texts.{copy_lines}

-- `refused`
abbrev pub refused_text : List ℕ
refused_text = 114 ∷ 101 ∷ 102 ∷ 117 ∷ 115 ∷ 101 ∷ 100 ∷ []

-- `budget`
abbrev budget_name : List ℕ
budget_name = 98 ∷ 117 ∷ 100 ∷ 103 ∷ 101 ∷ 116 ∷ []

-- THE LISTING
module _ (s : List ℕ) where
  abbrev h : Heading
  h = heading s

  heading-is : heading_line s ≡ heading_text h.copies h.edges (budgets_in s)
  unfolding heading_line line heading_text spaced
  heading-is =
      ap (λ (w : List ℕ). (copies_text ++ spaced h.copies) ++ ((edges_text ++ spaced h.edges) ++ (32 ∷ w)))
      (numbers-line budget_name (budgets_in s))

  copy_is : (i : ℕ) → copy_line s i ≡ line_at s h.records h.copies h.edges i
  unfolding copy_line line copy_text spaced targets_at chain_at
  copy_is i =
      ap (λ (w : List ℕ). decimal i ++ (32 ∷ (decimal (block_at h s i) ++ (32 ∷ w))))
      (numbers-line (decimal (low_at h s i)) (targets_at h s i))

  -- by what its header and its budgets were read as
  pub listing-is : {g : Heading} {bs : List ℕ} → g ≡ h → bs ≡ budgets_in s
      → listing_of s ≡ heading_text g.copies g.edges bs ++ copy_lines s g.records g.copies g.edges
  unfolding listing_of
  listing-is q r =
      ap₂ (λ (x : List ℕ) (l : ℕ → List ℕ). x ++ each l (from 1 h.copies)) heading-is (λ k i. copy_is i k)
      ∙ ap₂ (λ (g : Heading) (bs : List ℕ). heading_text g.copies g.edges bs ++ copy_lines s g.records g.copies g.edges) (sym q) (sym r)

-- A REFUSAL
pub refusal_is : (n : ℕ) → refusal_of n ≡ (refused_text ++ spaced n) ++ newline_text
unfolding refusal_of line spaced
refusal_is n = refl

pub refusal-length : (n : ℕ) → length (refusal_of n) ≡ length (refused_text ++ spaced n) + 1
refusal-length n = ap length (refusal_is n) ∙ length-append (refused_text ++ spaced n) newline_text
