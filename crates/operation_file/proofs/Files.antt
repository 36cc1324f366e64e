-- The graph sheet of an operation sheet by its answer, and of a whole file by its first words.
-- Rests on base Orders, formats Budgets, operation_sheet Conversion, file_words LongFile, kept Held and Whole, specs Longer and Program.
use mathlib.Core.Path.{◌≡◌, refl, sym, ap, ◌∙◌}
use mathlib.Core.Bool.{Bool, true, false, not}
use mathlib.Core.List.{List, [], ◌++◌}
use Prim.Native.Nat.{ℕ, zero, suc, ◌+◌, ◌≤◌, ◌<◌}
use native.Mathlib.Omega.{arith}
use native.Mathlib.Decide.{ℕ_discrete}
use borrow.Author.Tests.{le-ltb, ne_eqb}
use lib.ListN.{length, get_or, take}
use lib.Seq.{take_at}
use Rattle.base.specs.Checks.{refused}
use Rattle.base.proofs.Orders.{tested, none_left, over-stops, over-passes}
use Rattle.formats.specs.Limits.{most_budgets}
use Rattle.formats.specs.Versions.{budgets_at, budget_count}
use Rattle.formats.specs.File.{words_of, bytes_of, odd_bytes}
use Rattle.formats.specs.Listing.{refusal_of}
use Rattle.formats.specs.GraphSheet.{header, sheet_length, budget_order, edge_order}
use Rattle.formats.proofs.Budgets.{graph-records, header-few, budgets-there, claimed}
use Rattle.file_words.proofs.LongFile.{Longer, graph-most, first-words}
use Rattle.kept.specs.Held.{Held, holding}
use Rattle.kept.proofs.Whole.{kept_whole}
use Rattle.operation_sheet.specs.Operations.{wrong_size, operation_length, operations_order, operation_order, small_row, convert_order, Converting}
use Rattle.operation_sheet.specs.Operations.{converted_sheet, convert}
use Rattle.operation_sheet.proofs.Conversion.{accepted, operation-numbered, conversion-keeps}
use Rattle.operation_file.specs.Longer.{longer_operations, longer_file, most_graph}
use Rattle.operation_file.specs.Program.{sheet_converted, converted_from, converted}

-- AN OPERATION SHEET
module _ (w : List ℕ) where
  pub sheet-refused : (a : ℕ) → refused operation_order w ≡ a → (a ≡ 0 → ⊥) → sheet_converted w ≡ refusal_of a
  unfolding sheet_converted
  sheet-refused zero e n = absurd (n refl)
  sheet-refused (suc a) e n = rw (e, sheet_converted)

  pub sheet-converted : refused operation_order w ≡ 0 → sheet_converted w ≡ bytes_of (converted_sheet w)
  unfolding sheet_converted
  sheet-converted e = rw (e, sheet_converted)

  -- an accepted sheet says a graph sheet of no more words than the row has
  pub graph-fits : refused operation_order w ≡ 0 → sheet_length (header w) ≤ most_graph
  graph-fits e =
      let A = accepted w e in
      let r = graph-records w in
      let L = A.listed.recorded in
      let there : budgets_at w + budget_count w ≤ length w = omega (arith, r, L.room) in
      let count = (claimed w there A.budget A.budgets).count in
      let few : budget_count w ≤ most_budgets = omega (arith, count, budgets-there w there) in
      omega (arith, header-few w few, L.blocks, L.edges)

  -- so 22 is never the answer of a converter that is lent such a row
  module _ (out : List ℕ) (room : most_graph ≤ length out) where
    abbrev input : Converting
    input = record { sheet = w; output = out }

    pub convert_answer : (convert w out).answer ≡ refused operation_order w
    unfolding convert convert_order small_row
    convert_answer = go (ℕ_discrete (refused operation_order w) 0)
      where
        go : Dec (refused operation_order w ≡ 0) → refused convert_order input ≡ refused operation_order w
        go (yes e) =
            over-passes (λ i. i.sheet) operation_order _ input operation-numbered e
            ∙ tested 22 small_row [] input (le-ltb (length out) _ (omega (arith, graph-fits e))) (none_left input) ∙ sym e
        go (no n) = over-stops (λ i. i.sheet) operation_order _ input n

    -- and the row begins with the graph sheet
    module _ (ok : (convert w out).answer ≡ 0) {new : List ℕ} (is : new ≡ (convert w out).output) {n : ℕ} (size : n ≡ sheet_length (header w)) where
      pub row-begins : take n new ≡ converted_sheet w
      row-begins =
          let k = conversion-keeps w out ok in
          ap (take n) (is ∙ k.0) ∙ take_at (converted_sheet w) _ n (k.1.size ∙ sym size)

      pub row-bytes : bytes_of (take n new) ≡ sheet_converted w
      row-bytes = ap bytes_of row-begins ∙ sym (sheet-converted (sym convert_answer ∙ ok))

-- sheets with the same refusal
same-converted : (v w : List ℕ) → refused operation_order v ≡ refused operation_order w → (refused operation_order v ≡ 0 → ⊥)
    → sheet_converted v ≡ sheet_converted w
same-converted v w e n = sheet-refused v _ refl n ∙ sym (sheet-refused w _ (sym e) n)

-- A FILE
module _ (bs : List ℕ) {odd : Bool} where
  pub odd-converted : odd ≡ true → refusal_of 1 ≡ converted_from bs odd
  unfolding converted_from
  odd-converted q = rw (q, converted_from)

  pub even-converted : odd ≡ false → sheet_converted (words_of bs) ≡ converted_from bs odd
  unfolding converted_from
  even-converted q = rw (q, converted_from)

-- so many words are more than 3 lets pass
operations-longer : Longer wrong_size longer_operations
unfolding wrong_size
operations-longer w l fits e =
    let g = graph-most w (fits 3 (omega arith)) e in
    ap not (ne_eqb (length w) (operation_length (header w) w) (λ q. omega (arith, g, q, fits (sheet_length (header w)) (omega (arith, g)))))

-- as much of a file as is read, in bytes below 256, gives the output of the whole
converted-whole : (fs : List ℕ) → ((i : ℕ) → get_or (take longer_file fs) i 0 < 256) → converted_from (take longer_file fs) (odd_bytes fs) ≡ converted fs
unfolding converted converted_from operation_order
converted-whole fs bytes = go (odd_bytes fs)
  where
    go : (b : Bool) → converted_from (take longer_file fs) b ≡ converted_from fs b
    go true = refl
    go false =
        first-words wrong_size (budget_order ++ edge_order ++ operations_order) longer_operations (omega arith) operations-longer
        sheet_converted same-converted fs bytes

-- and so does what is kept of it in a row for so much
pub converted-kept : {xs row : List ℕ} {n : ℕ} {odd : Bool} → Held xs row (holding n odd) → length row ≡ longer_file
    → ((i : ℕ) → get_or row i 0 < 256) → converted_from (take n row) odd ≡ converted xs
converted-kept H l bytes = kept_whole converted_from converted longer_file converted-whole H l bytes
