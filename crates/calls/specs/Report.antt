-- THE REPORT PROGRAM: from the bytes of a catalogue of graph sheets to the bytes of its output (document 02, K1 and K5).
-- Rests on base Checks, theory Margins, formats GraphSheet, BoundedSheet, File, Catalogue and Report, SheetGraph, Program.
use Rattle.std.specs.Prelude.{List, map, ℕ, zero, suc}
use Rattle.std.proofs.Math.Option.{Option, some, none}
use Rattle.base.specs.Checks.{refused}
use Rattle.formats.specs.GraphSheet.{header}
use Rattle.formats.specs.BoundedSheet.{heading}
use Rattle.formats.specs.File.{words_of}
use Rattle.formats.specs.Catalogue.{sheets}
use Rattle.formats.specs.Report.{Figures, unused_blocks, refused_as, report_of}
use Rattle.theory.specs.Margins.{margins_in}
use Rattle.calls.specs.SheetGraph.{task, bounded_sheet}
use Rattle.calls.specs.Program.{listing_order}

-- "blocks, bounded copies and bounded edges" of an accepted graph sheet, "the margin of every copy", and "each block that no kept path enters";
-- "K1's report take[s] h as 0"
abbrev pub accepted_figures : List ℕ → Figures
accepted_figures w =
    let t = bounded_sheet w 0 in
    record {
      answer = 0;
      blocks = (header w).blocks;
      copies = (heading t).copies;
      edges = (heading t).edges;
      margins = margins_in (task w 0);
      unused = unused_blocks (header w).blocks t;
    }

-- of a graph sheet; the numbers are the build's without 21, 22 and 43
unfoldable pub sheet_figures : List ℕ → Figures
sheet_figures w = elim (refused listing_order w) [ zero ↦ accepted_figures w | suc n ↦ refused_as (suc n) ]

-- "A length beyond the words left is reported as 3"
unfoldable pub figures : Option (List ℕ) → Figures
figures none = refused_as 3
figures (some w) = sheet_figures w

-- of a file; "an odd last byte" is no word
unfoldable pub report : List ℕ → List ℕ
report bs = report_of (map figures (sheets (words_of bs)))
