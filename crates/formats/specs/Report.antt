-- The text of a report on a catalogue, from the figures of its sheets (document 02, K1 and K5).
-- Rests on base Lists, BoundedSheet, Listing.
use Rattle.std.specs.Prelude.{◌≡◌, ◌≢◌, ◌⊎◌, Bool, true, false, not, List, [], ◌∷◌, ◌++◌, map, ℕ, zero, suc, ◌+◌, ◌*◌, ◌≤◌, ◌<◌, ltb}
use Rattle.std.proofs.Math.Option.{Option, some, none}
use Rattle.base.specs.Lists.{keep, each, chosen, from, member}
use Rattle.formats.specs.BoundedSheet.{heading, block_at}
use Rattle.formats.specs.Listing.{decimal, line, refused_text}

-- the blocks of the copies of a bounded sheet
abbrev pub copy_blocks : List ℕ → List ℕ
copy_blocks t = map (block_at (heading t) t) (from 1 (heading t).copies)

-- the blocks 1 to n of which a bounded sheet has no copy: those that no kept path enters (calls, proofs Unused)
unfoldable pub unused_blocks : ℕ → List ℕ → List ℕ
unused_blocks n t = keep (λ v. not (member v (copy_blocks t))) (from 1 n)

-- what a report says of a sheet: the number that refused it, or 0 and N, C, F, the margins of its copies, and the blocks that no kept path enters
pub record Figures : Type 0 where
  pub answer : ℕ
  pub blocks : ℕ
  pub copies : ℕ
  pub edges : ℕ
  pub margins : List (Option ℕ)
  pub unused : List ℕ

-- "A refused sheet gives its one line only and adds nothing to the totals."
unfoldable pub refused_as : ℕ → Figures
refused_as n = record { answer = n; blocks = 0; copies = 0; edges = 0; margins = []; unused = [] }

-- `total`, `most`, `none`, `unused`
abbrev pub total_text : List ℕ
total_text = 116 ∷ 111 ∷ 116 ∷ 97 ∷ 108 ∷ []

abbrev pub most_text : List ℕ
most_text = 109 ∷ 111 ∷ 115 ∷ 116 ∷ []

abbrev pub none_text : List ℕ
none_text = 110 ∷ 111 ∷ 110 ∷ 101 ∷ []

abbrev pub unused_text : List ℕ
unused_text = 117 ∷ 110 ∷ 117 ∷ 115 ∷ 101 ∷ 100 ∷ []

-- a margin: "that next cost less its low, or `none`"
unfoldable pub margin_text : Option ℕ → List ℕ
margin_text none = none_text
margin_text (some m) = decimal m

-- "the sheet's place from 1, N, C, F, or place, `refused`, number"; "the report ends a sheet's line with the margin of every copy, in order"
unfoldable pub figures_line : ℕ → ℕ → ℕ → ℕ → List (Option ℕ) → List ℕ
figures_line p n c f ms = line (decimal p ∷ decimal n ∷ decimal c ∷ decimal f ∷ map margin_text ms)

unfoldable pub refused_line : ℕ → ℕ → List ℕ
refused_line p n = line (decimal p ∷ refused_text ∷ decimal n ∷ [])

unfoldable pub sheet_line : ℕ → Figures → List ℕ
sheet_line p f = elim f.answer [ zero ↦ figures_line p f.blocks f.copies f.edges f.margins | suc n ↦ refused_line p (suc n) ]

-- "`total` and the sums"
pub record Sums : Type 0 where
  pub blocks : ℕ
  pub copies : ℕ
  pub edges : ℕ

abbrev pub no_sums : Sums
no_sums = record { blocks = 0; copies = 0; edges = 0 }

unfoldable pub plus : Sums → Figures → Sums
plus s f = record { blocks = s.blocks + f.blocks; copies = s.copies + f.copies; edges = s.edges + f.edges }

unfoldable pub sums : Sums → List Figures → Sums
sums s [] = s
sums s (f ∷ fs) = sums (plus s f) fs

unfoldable pub total_line : Sums → List ℕ
total_line s = line (total_text ∷ decimal s.blocks ∷ decimal s.copies ∷ decimal s.edges ∷ [])

-- "the routine with the greatest copies to blocks as a fraction (or none)": its place, 0 for none, and the two numbers
pub record Most : Type 0 where
  pub place : ℕ
  pub copies : ℕ
  pub blocks : ℕ

-- none: as a fraction 0, below that of every accepted sheet
abbrev pub no_most : Most
no_most = record { place = 0; copies = 0; blocks = 1 }

-- "Fractions are compared by whole numbers, never rounded": C / N is above C' / N' where C' × N < C × N'
unfoldable pub greater : Figures → Most → Bool
greater f m = ltb (m.copies * f.blocks) (f.copies * m.blocks)

-- the greater of what was found before and of the sheet at place p; "equal ones go to the earlier sheet"
unfoldable pub most_of : Most → ℕ → Figures → Most
most_of m p f = elim (greater f m) [ true ↦ record { place = p; copies = f.copies; blocks = f.blocks } | false ↦ m ]

-- of sheets with the places p, p + 1, ..
unfoldable pub most : Most → ℕ → List Figures → Most
most m p [] = m
most m p (f ∷ fs) = most (most_of m p f) (suc p) fs

-- WHAT IT FINDS: "the routine with the greatest copies to blocks as a fraction (or none)"; "Fractions are compared by whole numbers, never
-- rounded; equal ones go to the earlier sheet"
pub record Greatest (fs : List Figures) (m : Most) : Type 0 where
  -- it is the place of a sheet, with that sheet's numbers, or 0
  pub found : (m.place ≡ 0)
      ⊎ ((f : Figures) × (chosen fs m.place ≡ some f) × (f.copies ≡ m.copies) × (f.blocks ≡ m.blocks))
  -- no sheet has a greater fraction
  pub above : (p : ℕ) (f : Figures) → chosen fs p ≡ some f → f.copies * m.blocks ≤ m.copies * f.blocks
  -- an earlier one has a smaller one
  pub earliest : (p : ℕ) (f : Figures) → p < m.place → chosen fs p ≡ some f → 1 ≤ f.blocks
      → f.copies * m.blocks < m.copies * f.blocks
  -- 0 is for no sheet with copies
  pub nothing : m.place ≡ 0 → (p : ℕ) (f : Figures) → chosen fs p ≡ some f → f.copies ≡ 0
  -- and a place for one with copies and blocks: 0 / 0, a refused sheet's, is no fraction
  pub whole : m.place ≢ 0 → (1 ≤ m.copies) × (1 ≤ m.blocks)

-- "`most`, place, C, N, or `most none`"
unfoldable pub most_line : Most → List ℕ
most_line m = elim m.place [
  | zero ↦ line (most_text ∷ none_text ∷ [])
  | suc p ↦ line (most_text ∷ decimal (suc p) ∷ decimal m.copies ∷ decimal m.blocks ∷ [])
]

-- "`unused`, place, block, rising"
unfoldable pub unused_line : ℕ → ℕ → List ℕ
unused_line p v = line (unused_text ∷ decimal p ∷ decimal v ∷ [])

unfoldable pub unused_lines : ℕ → Figures → List ℕ
unused_lines p f = each (unused_line p) f.unused

-- the lines of sheets with the places p, p + 1, ..
unfoldable pub each_sheet : (ℕ → Figures → List ℕ) → ℕ → List Figures → List ℕ
each_sheet g p [] = []
each_sheet g p (f ∷ fs) = g p f ++ each_sheet g (suc p) fs

-- THE REPORT: a line for each sheet, the totals, the greatest, the blocks that no kept path enters
unfoldable pub report_of : List Figures → List ℕ
report_of fs = each_sheet sheet_line 1 fs ++ (total_line (sums no_sums fs) ++ (most_line (most no_most 1 fs) ++ each_sheet unused_lines 1 fs))
