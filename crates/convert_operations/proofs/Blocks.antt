-- The words of the blocks, put two by two.
-- Rests on put_words Put, operation_sheet Operations and GraphWords.
use mathlib.Core.Path.{◌≡◌, sym, ap, ap₂, ◌∙◌}
use mathlib.Core.List.{List, [], ◌∷◌}
use Prim.Native.Nat.{ℕ, ◌+◌, ◌-◌, ◌*◌, ◌≤◌, ◌<◌}
use native.Mathlib.Omega.{arith}
use lib.ListN.{length}
use Rattle.base.specs.Lists.{each, from}
use Rattle.formats.specs.GraphSheet.{Header, sheet_length, first_word}
use Rattle.put_words.specs.Put.{put_words}
use Rattle.put_words.proofs.Put.{put-none, put-length, put-more}
use Rattle.operation_sheet.specs.Operations.{cycle_sum, block_words}
use Rattle.operation_sheet.proofs.GraphWords.{pairs-length, pairs-more}

-- the blocks before v are put
pub record Placing (h : Header) (w row : List ℕ) (v : ℕ) (out : List ℕ) : Type 0 where
  pub room : sheet_length h ≤ length row
  pub least : 1 ≤ v
  pub upto : v ≤ h.blocks + 1
  pub is : out ≡ put_words row h.records (block_words h w (v - 1))

blocks-length : (h : Header) (w : List ℕ) (n : ℕ) → length (block_words h w n) ≡ 2 * n
blocks-length h w n = pairs-length (cycle_sum h w) (first_word h w) 1 n

module _ {h : Header} {w row : List ℕ} where
  pub placing : sheet_length h ≤ length row → Placing h w row 1 row
  unfolding each from
  placing l = record { room = l; least = omega arith; upto = omega arith; is = sym (put-none row h.records) }

  module _ {v : ℕ} {out : List ℕ} (P : Placing h w row v out) where
    pub placing-length : length out ≡ length row
    placing-length =
        ap length P.is
        ∙ put-length row h.records (block_words h w (v - 1)) (omega (arith, P.room, blocks-length h w (v - 1), P.upto, P.least))

    pub placing-on : v ≤ h.blocks → {c f : ℕ} → c ≡ cycle_sum h w v → f ≡ first_word h w v → {out' : List ℕ}
        → out' ≡ put_words out (h.records + 2 * (v - 1)) (c ∷ f ∷ []) → Placing h w row (v + 1) out'
    placing-on l {c} {f} p q o =
        let here : 1 + (v - 1) ≡ v = omega (arith, P.least) in
        let next : v - 1 + 1 ≡ v + 1 - 1 = omega (arith, P.least) in
        let pair : c ∷ f ∷ [] ≡ cycle_sum h w (1 + (v - 1)) ∷ first_word h w (1 + (v - 1)) ∷ []
        = ap₂ (λ (x y : ℕ). x ∷ y ∷ []) (p ∙ ap (cycle_sum h w) (sym here)) (q ∙ ap (first_word h w) (sym here)) in
        record {
          room = P.room;
          least = omega arith;
          upto = omega arith;
          is = o
              ∙ ap₂ (λ (r : List ℕ) (x : List ℕ). put_words r (h.records + 2 * (v - 1)) x) P.is pair
              ∙ put-more row h.records (block_words h w (v - 1)) _ (h.records + 2 * (v - 1)) (omega (arith, P.room))
              (omega (arith, blocks-length h w (v - 1)))
              ∙ ap (put_words row h.records) (sym (pairs-more (cycle_sum h w) (first_word h w) 1 (v - 1)) ∙ ap (block_words h w) next);
        }

    pub placed : h.blocks < v → out ≡ put_words row h.records (block_words h w h.blocks)
    placed l =
        let all : v - 1 ≡ h.blocks = omega (arith, P.upto) in
        P.is ∙ ap (λ (n : ℕ). put_words row h.records (block_words h w n)) all
