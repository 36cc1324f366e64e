-- What is said of a refused and of an accepted sheet, from what the calls below answer and leave.
-- Rests on formats Report, Handler and RuleRead, calls Unused and Built, digits Wrote and Due, margins Task, unused Named, specs Says.
use mathlib.Core.Path.{◌≡◌, refl, sym, ap, ap₂, ◌∙◌}
use mathlib.Core.List.{List}
use Prim.Native.Nat.{ℕ, zero, suc, ◌≤◌, ◌<◌}
use native.Mathlib.Omega.{arith}
use lib.ListN.{length}
use Rattle.base.specs.Checks.{refused}
use Rattle.formats.specs.Limits.{least_words, most_blocks}
use Rattle.formats.specs.GraphSheet.{Header, header}
use Rattle.formats.specs.BoundedSheet.{Heading, heading}
use Rattle.formats.specs.Rule11.{bounded_refusal}
use Rattle.formats.specs.Report.{unused_blocks, refused_as, figures_line, refused_line, sheet_line}
use Rattle.formats.proofs.Handler.{accepted-with}
use Rattle.formats.proofs.RuleRead.{clauses, read-ruled}
use Rattle.calls.specs.SheetGraph.{bounded_sheet}
use Rattle.calls.specs.Program.{listing_order}
use Rattle.calls.specs.Report.{accepted_figures}
use Rattle.calls.proofs.Built.{keeps-rule}
use Rattle.calls.proofs.Unused.{listed}
use Rattle.digits.specs.Wrote.{Wrote}
use Rattle.digits.proofs.Due.{wrote_as}
use Rattle.margins.specs.Margins.{margins_at}
use Rattle.margins.proofs.Task.{margins-are}
use Rattle.unused.specs.Marks.{Marks, marked_blocks, First}
use Rattle.unused.proofs.Named.{names-none}
use Rattle.sheet_figures.specs.Says.{Costs, Says, Small}

-- A REFUSED SHEET
by_number : (p n : ℕ) → 0 < n → sheet_line p (refused_as n) ≡ refused_line p n
unfolding sheet_line refused_as
by_number p zero l = absurd (omega arith)
by_number p (suc n) l = refl

pub refused_says : {n p k : ℕ} {marks : Marks} {old text : List ℕ} → 0 < n → First 0 marks → Wrote old 0 (refused_line p n) text k × (k ≤ length text)
    → Says (refused_as n) p (record { blocks = 0; copies = 0; edges = 0; size = k }) marks old text
unfolding refused_as
refused_says {n} {p} l F w =
    record { blocks = refl; copies = refl; edges = refl; unused = names-none F; line = wrote_as w.0 (sym (by_number p n l)); inside = w.1 }

pub refused-small : (k : ℕ) → Small (record { blocks = 0; copies = 0; edges = 0; size = k })
refused-small k = record { blocks = omega arith; copies = omega arith; edges = omega arith }

-- AN ACCEPTED SHEET w, whose bounded sheet is t
module _ (w : List ℕ) (e : refused listing_order w ≡ 0) where
  pub sheet-long : least_words ≤ length w
  sheet-long = (accepted-with w 0 (listed w e).ok).sheet.long

  pub blocks-most : (header w).blocks ≤ most_blocks
  blocks-most = (accepted-with w 0 (listed w e).ok).sheet.sound.form.blocks.1

  module _ {t : List ℕ} (q : t ≡ bounded_sheet w 0) where
    pub rule-kept : bounded_refusal t ≡ 0
    rule-kept = ap bounded_refusal q ∙ keeps-rule w 0 (listed w e)

    pub bounded-long : least_words ≤ length t
    bounded-long = (clauses t rule-kept).long

    -- by what the two headers were read as
    module _ {g : Header} {h : Heading} (a : g ≡ header w) (b : h ≡ heading t) where
      i : g.blocks ≡ (header w).blocks
      i = ap (λ (x : Header). x.blocks) a

      j : h.copies ≡ (heading (bounded_sheet w 0)).copies
      j = ap (λ (x : Heading). x.copies) b ∙ ap (λ (x : List ℕ). (heading x).copies) q

      k : h.edges ≡ (heading (bounded_sheet w 0)).edges
      k = ap (λ (x : Heading). x.edges) b ∙ ap (λ (x : List ℕ). (heading x).edges) q

      pub accepted-small : (s : ℕ) → Small (record { blocks = g.blocks; copies = h.copies; edges = h.edges; size = s })
      accepted-small s =
          let F = (read-ruled t rule-kept b).form in
          record { blocks = omega (arith, i, blocks-most); copies = F.copies.1; edges = F.edges.1 }

      pub accepted-says : {p s : ℕ} {marks : Marks} {old text : List ℕ} → marked_blocks marks ≡ unused_blocks g.blocks t
          → {area : List ℕ} → Costs w area
          → Wrote old 0 (figures_line p g.blocks (heading t).copies (heading t).edges (margins_at t area)) text s × (s ≤ length text)
          → Says (accepted_figures w) p (record { blocks = g.blocks; copies = h.copies; edges = h.edges; size = s }) marks old text
      unfolding sheet_line
      accepted-says {p} m {area} C l = record {
        blocks = i;
        copies = j;
        edges = k;
        unused = m ∙ ap (λ (x : ℕ). unused_blocks x t) i ∙ ap (unused_blocks (header w).blocks) q;
        line =
            wrote_as l.0
            (ap (λ (x : List ℕ). figures_line p g.blocks (heading x).copies (heading x).edges (margins_at x area)) q
            ∙ ap₂ (λ (x : ℕ) (ms : _). figures_line p x (heading (bounded_sheet w 0)).copies (heading (bounded_sheet w 0)).edges ms) i
            (margins-are w 0 (listed w e) C.table));
        inside = l.1;
      }
