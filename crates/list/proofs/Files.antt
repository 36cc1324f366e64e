-- The listing of a graph sheet by its answer, and of a whole file by its first words.
-- Rests on calls Program, front Read, kept Held and Whole, specs Whole.
use mathlib.Core.Path.{◌≡◌, refl, sym, ◌∙◌}
use mathlib.Core.Bool.{Bool, true, false}
use mathlib.Core.List.{List}
use Prim.Native.Nat.{ℕ, zero, suc, ◌<◌}
use lib.ListN.{length, get_or, take}
use Rattle.base.specs.Checks.{refused}
use Rattle.formats.specs.File.{words_of, odd_bytes}
use Rattle.formats.specs.Listing.{listing_of, refusal_of}
use Rattle.calls.specs.SheetGraph.{bounded_sheet}
use Rattle.calls.specs.Program.{listing_order, sheet_listing, listing}
use Rattle.file_words.specs.Longer.{longer_file}
use Rattle.front.proofs.Read.{front_same}
use Rattle.kept.specs.Held.{Held, holding}
use Rattle.kept.proofs.Whole.{kept_whole}
use Rattle.list.specs.Whole.{listing_from}

-- A GRAPH SHEET
module _ (w : List ℕ) where
  pub sheet-refused : (a : ℕ) → refused listing_order w ≡ a → (a ≡ 0 → ⊥) → sheet_listing w ≡ refusal_of a
  unfolding sheet_listing
  sheet-refused zero e n = absurd (n refl)
  sheet-refused (suc a) e n = rw (e, sheet_listing)

  pub sheet-listed : refused listing_order w ≡ 0 → sheet_listing w ≡ listing_of (bounded_sheet w 0)
  unfolding sheet_listing
  sheet-listed e = rw (e, sheet_listing)

-- sheets with the same refusal
same-listing : (v w : List ℕ) → refused listing_order v ≡ refused listing_order w → (refused listing_order v ≡ 0 → ⊥)
    → sheet_listing v ≡ sheet_listing w
same-listing v w e n = sheet-refused v _ refl n ∙ sym (sheet-refused w _ (sym e) n)

-- A FILE
module _ (bs : List ℕ) {odd : Bool} where
  pub odd-listed : odd ≡ true → refusal_of 1 ≡ listing_from bs odd
  unfolding listing_from
  odd-listed q = rw (q, listing_from)

  pub even-listed : odd ≡ false → sheet_listing (words_of bs) ≡ listing_from bs odd
  unfolding listing_from
  even-listed q = rw (q, listing_from)

-- as much of a file as is read, in bytes below 256, gives the listing of the whole
pub listed-whole : (fs : List ℕ) → ((i : ℕ) → get_or (take longer_file fs) i 0 < 256) → listing_from (take longer_file fs) (odd_bytes fs) ≡ listing fs
unfolding listing listing_from
listed-whole fs bytes = go (odd_bytes fs) refl
  where
    go : (b : Bool) → odd_bytes fs ≡ b → listing_from (take longer_file fs) (odd_bytes fs) ≡ listing fs
    go true e = rw (e, listing, listing_from)
    go false e = rw (e, listing, listing_from) (front_same sheet_listing same-listing fs bytes)

-- and so does what is kept of it in a row for so much
pub listed_kept : {xs row : List ℕ} {n : ℕ} {odd : Bool} → Held xs row (holding n odd) → length row ≡ longer_file
    → ((i : ℕ) → get_or row i 0 < 256) → listing_from (take n row) odd ≡ listing xs
listed_kept H l bytes = kept_whole listing_from listing longer_file listed-whole H l bytes
