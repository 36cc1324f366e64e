-- As much of a file as is read answers for the whole: what goes by the refusal of a refused sheet is the same for both.
-- Rests on calls Program, file_words LongFile.
use mathlib.Core.Path.{◌≡◌}
use mathlib.Core.List.{List, [], ◌∷◌, ◌++◌}
use Prim.Native.Nat.{ℕ, ◌<◌}
use native.Mathlib.Omega.{arith}
use lib.ListN.{get_or, take}
use Rattle.base.specs.Checks.{refused}
use Rattle.formats.specs.GraphSheet.{bad_length, budget_order, cost_order, edge_order, sheet_order}
use Rattle.formats.specs.File.{words_of}
use Rattle.calls.specs.SheetGraph.{task}
use Rattle.calls.specs.Weigh.{nothing_fits}
use Rattle.calls.specs.Build.{too_large}
use Rattle.calls.specs.Program.{listing_order}
use Rattle.file_words.specs.Longer.{longer_sheet, longer_file}
use Rattle.file_words.proofs.LongFile.{first-words, graph-longer}

module _ {A : Type 0} (f : List ℕ → A)
    (same : (v w : List ℕ) → refused listing_order v ≡ refused listing_order w → (refused listing_order v ≡ 0 → ⊥) → f v ≡ f w) where
  -- of a file whose bytes are below 256 as far as they are read
  pub front_same : (fs : List ℕ) → ((i : ℕ) → get_or (take longer_file fs) i 0 < 256) → f (words_of (take longer_file fs)) ≡ f (words_of fs)
  unfolding sheet_order listing_order
  front_same =
      first-words bad_length (budget_order ++ cost_order ++ edge_order ++ ((9, λ w. nothing_fits (task w 0)) ∷ (10, λ w. too_large (task w 0)) ∷ []))
      longer_sheet (omega arith) graph-longer f same
