-- What a report says of a sheet, in what the code answers and leaves: its figures, its line and the marks of its unused blocks.
-- Rests on formats Limits, GraphSheet and Report, calls SheetGraph and Area, digits Wrote, unused Marks.
use Rattle.std.specs.Prelude.{◌≡◌, List, ℕ, ◌≤◌, length}
use Rattle.formats.specs.Limits.{most_blocks, most_copies, most_bounded_edges, most_cells}
use Rattle.formats.specs.GraphSheet.{header}
use Rattle.formats.specs.Report.{Figures, sheet_line}
use Rattle.calls.specs.SheetGraph.{graph, task}
use Rattle.calls.specs.Area.{Table}
use Rattle.digits.specs.Wrote.{Wrote}
use Rattle.unused.specs.Marks.{Marks, marked_blocks}
use Rattle.sheet_figures.specs.declared.Reported.{Reported}

-- a work area of the most cells that stands for the completion costs of a graph sheet
pub record Costs (w area : List ℕ) : Type 0 where
  pub room : most_cells ≤ length area
  pub table : Table (graph w) (header w).blocks (task w 0).largest area

-- of the sheet at place p, with the figures f; its line is written into the row old
pub record Says (f : Figures) (p : ℕ) (r : Reported) (marks : Marks) (old text : List ℕ) : Type 0 where
  pub blocks : r.blocks ≡ f.blocks
  pub copies : r.copies ≡ f.copies
  pub edges : r.edges ≡ f.edges
  pub unused : marked_blocks marks ≡ f.unused
  pub line : Wrote old 0 (sheet_line p f) text r.size
  pub inside : r.size ≤ length text

-- no more than the limits allow
pub record Small (r : Reported) : Type 0 where
  pub blocks : r.blocks ≤ most_blocks
  pub copies : r.copies ≤ most_copies
  pub edges : r.edges ≤ most_bounded_edges
