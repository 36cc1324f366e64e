-- What a report says of a graph sheet: the figures by its answer, and its unused blocks are those that no kept path enters (document 02).
-- Rests on base Lists and Orders, theory Used, formats Accepted, Weigh, Built, Construction.
use mathlib.Core.Path.{◌≡◌, refl, sym, ap, subst, ◌∙◌}
use mathlib.Core.Logic.{◌↔◌}
use mathlib.Core.Bool.{true, not}
use mathlib.Core.List.Memᴰ
use mathlib.Core.List.{List, Memᴰ}
use mathlib.Core.Option.{some}
use Prim.Native.Nat.{ℕ, zero, suc, ◌≤◌}
use native.Mathlib.Omega.{arith}
use borrow.Author.Tests.{ltb-false, not-true}
use Rattle.base.specs.Lists.{chosen, from, member}
use Rattle.base.specs.Copy.{Copy}
use Rattle.base.specs.Checks.{refused}
use Rattle.base.proofs.Truth.{not-both, else-false, or-false}
use Rattle.base.proofs.Lists.{keep-i, keep-e, member-i, member-e, from-i, from-e, chosen-mem, chosen-le, choice-of, chosen-some}
use Rattle.base.proofs.Orders.{unrefused, append-e}
use Rattle.theory.specs.Setting.{Kept}
use Rattle.theory.proofs.Used.{used}
use Rattle.formats.specs.Limits.{most_copies, most_bounded_edges}
use Rattle.formats.specs.Versions.{largest_in}
use Rattle.formats.specs.GraphSheet.{header, sheet_order, sheet_refusal}
use Rattle.formats.specs.BoundedSheet.{heading, block_at, copy_at}
use Rattle.formats.specs.Report.{copy_blocks, unused_blocks, refused_as}
use Rattle.formats.proofs.Accepted.{graph-numbered}
use Rattle.formats.proofs.Handler.{handled-zero, accepted-with}
use Rattle.calls.specs.SheetGraph.{graph, sheet_copies, bounded_sheet}
use Rattle.calls.specs.Weigh.{nothing_fits}
use Rattle.calls.specs.Build.{too_many}
use Rattle.calls.specs.Program.{listing_order}
use Rattle.calls.specs.Report.{accepted_figures, sheet_figures}
use Rattle.calls.proofs.SheetLaws.{largest-zero}
use Rattle.calls.proofs.Weigh.{some-low}
use Rattle.calls.proofs.Built.{Buildable, setting}
use Rattle.calls.proofs.Construction.{Copied, copied, demand2}

-- THE FIGURES, by the answer
pub sheet-accepted : (w : List ℕ) → refused listing_order w ≡ 0 → sheet_figures w ≡ accepted_figures w
unfolding sheet_figures
sheet-accepted w e = rw (e, sheet_figures)

pub sheet-refused : (w : List ℕ) (a : ℕ) → refused listing_order w ≡ a → (a ≡ 0 → ⊥) → sheet_figures w ≡ refused_as a
unfolding sheet_figures
sheet-refused w zero e n = absurd (n refl)
sheet-refused w (suc a) e n = rw (e, sheet_figures)

-- an accepted sheet
pub listed : (w : List ℕ) → refused listing_order w ≡ 0 → Buildable w 0
unfolding listing_order sheet_refusal nothing_fits too_many
listed w e =
    let o = append-e sheet_order _ w graph-numbered e in
    let a = unrefused 8 _ _ w o.1 in
    let l = some-low _ a.0 in
    let m = or-false _ _ (unrefused 9 _ _ w a.1).0 in
    record { ok = handled-zero w ∙ o.0; start = l.0; opens = l.1; few = ltb-false most_copies _ m.0; edges = ltb-false most_bounded_edges _ m.1 }

-- it has blocks and copies, so that copies to blocks is a fraction above 0
pub some-figures : (w : List ℕ) → refused listing_order w ≡ 0 → (1 ≤ (header w).blocks) × (1 ≤ (heading (bounded_sheet w 0)).copies)
some-figures w e =
    let K = listed w e in
    omega (arith, (accepted-with w 0 K.ok).sheet.sound.form.blocks, (demand2 w 0 K).two)

-- THE UNUSED BLOCKS

-- the blocks of a bounded sheet's records are those of the copies
module _ (w : List ℕ) (K : Buildable w 0) (v : ℕ) where
  abbrev t : List ℕ
  t = bounded_sheet w 0

  abbrev D : Copied w 0 K (bounded_sheet w 0)
  D = copied w 0 K

  abbrev HasCopy : Type 0
  HasCopy = (c : Copy) × Memᴰ c (sheet_copies w 0) × (c.block ≡ v)

  block-at : (i : ℕ) (c : Copy) → chosen (sheet_copies w 0) i ≡ some c → block_at (heading t) t i ≡ c.block
  unfolding copy_at
  block-at i c q = ap (λ (d : Copy). d.block) (D.record_is i c q)

  block-copy : Memᴰ v (copy_blocks t) → HasCopy
  block-copy m =
      let r = Memᴰ.of_map (block_at (heading t) t) (from 1 (heading t).copies) m in
      let l = from-e (heading t).copies 1 r.0 r.1 in
      let c = chosen-some (sheet_copies w 0) r.0 l.0 (omega (arith, D.copies)) in
      (c.0, chosen-mem (sheet_copies w 0) r.0 c.0 c.1, sym (block-at r.0 c.0 c.1) ∙ r.2)

  copy-block : HasCopy → Memᴰ v (copy_blocks t)
  copy-block (c, m, e) =
      let k = choice-of m in
      let l = chosen-le (sheet_copies w 0) (suc k.0) c k.1 in
      Memᴰ.cast (sym (block-at (suc k.0) c k.1 ∙ e))
      (Memᴰ.map (block_at (heading t) t) (from-i (heading t).copies 1 (suc k.0) l.0 (omega (arith, D.copies))))

module _ (w : List ℕ) (e : refused listing_order w ≡ 0) (v : ℕ) where
  abbrev L : Buildable w 0
  L = listed w e

  abbrev u : List ℕ
  u = bounded_sheet w 0

  abbrev n : ℕ
  n = (header w).blocks

  abbrev Enters : Type 0
  Enters = Kept (graph w) (largest_in w) v

  member-kept : member v (copy_blocks u) ≡ true → Enters
  unfolding sheet_copies
  member-kept m =
      subst (λ (b : ℕ). Kept (graph w) b v) (largest-zero w) ((used (setting w 0 L) v).0 (block-copy w L v (member-e v (copy_blocks u) m)))

  kept-member : Enters → member v (copy_blocks u) ≡ true
  unfolding sheet_copies
  kept-member k = member-i (copy-block w L v ((used (setting w 0 L) v).1 (subst (λ (b : ℕ). Kept (graph w) b v) (sym (largest-zero w)) k)))

  -- "each block that no kept path enters"
  pub unused-exactly : Memᴰ v (unused_blocks (header w).blocks (bounded_sheet w 0))
      ↔ ((1 ≤ v) × (v ≤ (header w).blocks) × (Kept (graph w) (largest_in w) v → ⊥))
  unfolding unused_blocks
  unused-exactly = (there, back)
    where
      there : Memᴰ v (unused_blocks n u) → (1 ≤ v) × (v ≤ n) × (Enters → ⊥)
      there m =
          let p = keep-e (λ v. not (member v (copy_blocks u))) (from 1 n) m in
          let l = from-e n 1 v p.0 in
          (l.0, omega (arith, l), λ k. not-both (kept-member k) (not-true _ p.1))

      back : (1 ≤ v) × (v ≤ n) × (Enters → ⊥) → Memᴰ v (unused_blocks n u)
      back (p, q, none) =
          keep-i (λ v. not (member v (copy_blocks u))) (from 1 n) (from-i n 1 v p (omega arith))
          (ap not (else-false _ (λ m. none (member-kept m))))
