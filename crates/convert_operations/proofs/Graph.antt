-- The graph sheet in its three parts, and the call's answers.
-- Rests on base Orders, put_words Put, operation_sheet Operations, GraphWords and Conversion.
use mathlib.Core.Path.{◌≡◌, sym, ap, ap₂, ◌∙◌}
use mathlib.Core.List.{List, [], ◌++◌}
use Prim.Native.Nat.{ℕ, ◌+◌, ◌-◌, ◌*◌, ◌≤◌, ◌<◌}
use native.Mathlib.Omega.{arith}
use borrow.Author.Tests.{lt-ltb, le-ltb}
use lib.ListN.{length, take, drop}
use Rattle.base.specs.Checks.{refused, lent_after}
use Rattle.base.specs.Refusals.{number_of}
use Rattle.base.specs.declared.refusal.Refusal.{Refusal}
use Rattle.base.proofs.Refusals.{numbered}
use Rattle.base.proofs.Orders.{tested, none_left, over-stops, over-passes, refused-lent, accepted-lent}
use Rattle.formats.specs.GraphSheet.{Header, header, sheet_length, edges_at}
use Rattle.put_words.specs.Put.{put_words}
use Rattle.put_words.proofs.Put.{put-more}
use Rattle.operation_sheet.specs.Operations.{block_words, graph_words, converted_sheet, Converting, operation_order, small_row, convert_order, convert, Listed}
use Rattle.operation_sheet.proofs.GraphWords.{head-length, front_length}
use Rattle.operation_sheet.proofs.Conversion.{accepted, operation-numbered}

-- the header as it stands, the blocks behind it, the edges as they stand behind them
pub graph-put : {h : Header} {w : List ℕ} (row : List ℕ) {a b c : List ℕ} → Listed h w → a ≡ put_words row 0 (take (h.records - 0) (drop 0 w))
    → b ≡ put_words a h.records (block_words h w h.blocks)
    → c ≡ put_words b (edges_at h) (take (edges_at h + 2 * h.edges - edges_at h) (drop (edges_at h) w))
    → c ≡ put_words row 0 (graph_words h w)
unfolding graph_words
graph-put {h} {w} row {a} {b} L p q r =
    let n : h.records - 0 ≡ h.records = omega arith in
    let m : edges_at h + 2 * h.edges - edges_at h ≡ 2 * h.edges = omega arith in
    let head = take h.records w in
    let front = head ++ block_words h w h.blocks in
    let a-is : a ≡ put_words row 0 head = p ∙ ap (λ (k : ℕ). put_words row 0 (take k w)) n in
    let b-is : b ≡ put_words row 0 front
    = q ∙ ap (λ (x : List ℕ). put_words x h.records (block_words h w h.blocks)) a-is
    ∙ put-more row 0 head (block_words h w h.blocks) h.records (omega arith) (omega (arith, head-length h w L.recorded.room)) in
    r ∙ ap₂ (λ (x : List ℕ) (k : ℕ). put_words x (edges_at h) (take k (drop (edges_at h) w))) b-is m
    ∙ put-more row 0 front (take (2 * h.edges) (drop (edges_at h) w)) (edges_at h) (omega arith)
    (omega (arith, front_length h w L.recorded.room))

-- what the conditions leave, behind the header that was read, of words that are the sheet's
pub read-listed : {w given : List ℕ} {h : Header} → given ≡ w → h ≡ header given → 0 ≡ refused operation_order w → Listed h given
read-listed {w} same read e = rw (read, same) (accepted w (sym e)).listed

-- THE ANSWERS, and what they leave of the row
module _ (w output : List ℕ) where
  abbrev input : Converting
  input = record { sheet = w; output = output }

  abbrev pub Meets : ℕ → List ℕ → Type 0
  Meets a out = (a ≡ (convert w output).answer) × (out ≡ (convert w output).output)

  -- the row that is left under this answer
  left : (a : ℕ) → refused convert_order input ≡ a → (out : List ℕ)
      → out ≡ lent_after a output (converted_sheet w ++ drop (length (converted_sheet w)) output) → Meets a out
  unfolding convert
  left a e out o = (sym e, o ∙ ap (λ (k : ℕ). lent_after k output (converted_sheet w ++ drop (length (converted_sheet w)) output)) (sym e))

  kept : (a : ℕ) → refused convert_order input ≡ a → (a ≡ 0 → ⊥) → Meets a output
  kept a e n = left a e output (refused-lent output _ a n)

  -- the sheet is refused
  operations-refuse : {a : ℕ} → a ≡ refused operation_order w → (a ≡ 0 → ⊥) → Meets a output
  unfolding convert_order
  operations-refuse {a} e n =
      kept a (over-stops (λ i. i.sheet) operation_order _ input (λ z. n (e ∙ z)) ∙ sym e) n

  pub sheet-refuses : (r : Refusal) → number_of r ≡ refused operation_order w → Meets (number_of r) output
  sheet-refuses r e = operations-refuse e (λ z. let n = numbered r in omega (arith, n, z))

  module _ (ok : refused operation_order w ≡ 0) where
    -- the row is too short
    pub row-refuses : length output < sheet_length (header w) → Meets 22 output
    unfolding convert_order small_row
    row-refuses l =
        kept 22
        (over-passes (λ i. i.sheet) operation_order _ input operation-numbered ok
        ∙ tested 22 small_row [] input (lt-ltb (length output) _ l) (none_left input))
        (λ z. omega arith)

    -- neither
    pub row-serves : sheet_length (header w) ≤ length output → {out : List ℕ} → out ≡ put_words output 0 (graph_words (header w) w) → Meets 0 out
    unfolding convert_order small_row put_words converted_sheet
    row-serves l {out} o =
        left 0
        (over-passes (λ i. i.sheet) operation_order _ input operation-numbered ok
        ∙ tested 22 small_row [] input (le-ltb (length output) _ l) (none_left input))
        out
        (accepted-lent output _ (let n : 0 + length (graph_words (header w) w) ≡ length (graph_words (header w) w) = omega arith in
        o ∙ ap (λ (k : ℕ). graph_words (header w) w ++ drop k output) n))
