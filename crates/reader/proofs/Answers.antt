-- The order 11, 33: what a call that hands out edge words answers and hands out.
-- Rests on base Orders, formats Rule11, RuleKept and Parts, specs Placed.
use mathlib.Core.Path.{◌≡◌, refl, sym, ap, ◌∙◌}
use mathlib.Core.Bool.{Bool, true, false}
use mathlib.Core.List.{List, []}
use Prim.Native.Nat.{ℕ, zero, suc, ◌≤◌}
use native.Mathlib.Omega.{arith}
use Rattle.base.specs.Checks.{refused, outside}
use Rattle.base.specs.Refusals.{number_of}
use Rattle.base.specs.declared.refusal.Refusal.{Refusal}
use Rattle.base.proofs.Refusals.{is-refused}
use Rattle.base.proofs.Orders.{tested, none_left, inside_of, over-stops, over-passes}
use Rattle.formats.specs.BoundedSheet.{Heading, heading}
use Rattle.formats.specs.Rule11.{bounded_order, bounded_refusal, CopyIn, part_order, hand_out}
use Rattle.formats.proofs.RuleKept.{bounded-numbered}
use Rattle.formats.proofs.Parts.{handed_out}
use Rattle.bounded_check.specs.Ruled.{IsRuled}
use Rattle.reader.specs.Placed.{Placed, PlacedRecords}

module _ (s : List ℕ) (i : ℕ) where
  abbrev x : CopyIn
  x = record { sheet = s; copy = i }

  -- an answer and a place are those of the call
  abbrev pub Hands : ℕ → ℕ → ℕ → Type 0
  Hands a start size = (a ≡ (hand_out s i).answer) × Placed s start size (hand_out s i).start (hand_out s i).words

  refuses : (a : ℕ) → refused part_order x ≡ a → (a ≡ 0 → ⊥) → Hands a 0 0
  unfolding hand_out
  refuses zero q n = absurd (n refl)
  refuses (suc a) q n =
      rw (q, hand_out) (refl, record { is-start = refl; is-size = refl; inside = omega arith; are_words = refl })

  -- under a refusal there is no word
  pub no_words : (r : Refusal) → number_of r ≡ (hand_out s i).answer → ((hand_out s i).start ≡ 0) × ((hand_out s i).words ≡ [])
  unfolding hand_out
  no_words r q = go (refused part_order x) refl
    where
      go : (a : ℕ) → refused part_order x ≡ a → ((hand_out s i).start ≡ 0) × ((hand_out s i).words ≡ [])
      go zero z = absurd (is-refused r (rw (z, hand_out) at q))
      go (suc a) z = rw (z, hand_out) (refl, refl)

  -- 11, then 33
  pub sheet-refused : (r : Refusal) → number_of r ≡ bounded_refusal s → Hands (number_of r) 0 0
  unfolding part_order bounded_refusal
  sheet-refused r q = refuses (number_of r) (over-stops (λ i. i.sheet) bounded_order _ x (λ z. is-refused r (q ∙ z)) ∙ sym q) (is-refused r)

  -- the copy is tested against the number of copies that was read
  module _ {h : Heading} {bs es : List ℕ} (S : IsRuled h bs es s) {o : Bool} (q : o ≡ outside 1 h.copies i) where
    pub copy-refused : o ≡ true → Hands 33 0 0
    unfolding part_order bounded_refusal
    copy-refused e =
        let limit : outside 1 (heading s).copies i ≡ true = ap (λ (x : Heading). outside 1 x.copies i) (sym S.header) ∙ sym q ∙ e in
        refuses 33 (over-passes (λ i. i.sheet) bounded_order _ x bounded-numbered S.kept ∙ tested 33 _ [] x limit (none_left x)) (λ z. omega arith)

    pub copy-inside : o ≡ false → (1 ≤ i) × (i ≤ h.copies)
    copy-inside e = inside_of 1 h.copies i (sym q ∙ e)

    pub handed : o ≡ false → {start size : ℕ} → PlacedRecords h s i start size → Hands 0 start size
    handed e P =
        let l = copy-inside e in
        let c : h.copies ≡ (heading s).copies = ap (λ (x : Heading). x.copies) S.header in
        let out = handed_out s S.kept i l.0 (omega (arith, l.1)) in
        rw out (refl, rw S.header at P)
