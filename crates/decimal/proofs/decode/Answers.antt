-- The layout is told by the length and the headers; the lines are written as it says.
use Rattle.std.proofs.Common.{ap, List, ℕ, arith, length}
use Rattle.formats.specs.GraphSheet.{Header, header_of}
use Rattle.formats.specs.BoundedSheet.{Heading, heading_of}
use Rattle.decimal.proofs.Layouts.{total-replicate, header-least, heading-least, layout-graph, layout-bounded, layout-other, layout-short}
use Rattle.decimal.proofs.Rooms.{sheet-fits, sheet-ends}
use Rattle.decimal.proofs.decode.Goals as goal

-- SHORTER THAN A HEADER
pub put_lines-requires : goal.put_lines-requires
put_lines-requires c =
    let words : List ℕ = c.args.words.now in
    let e = layout-short words c.if-size-lt-LEAST_WORDS.true in
    record { le_width = omega arith; width_in_bounds = omega (arith, total-replicate 1 (length words)); words_in_bounds = omega (arith, sheet-fits words (λ i. omega (arith, c.type_inv.words i)) e c.requires) }

pub returns-then-size-lt-LEAST_WORDS : goal.returns-then-size-lt-LEAST_WORDS
returns-then-size-lt-LEAST_WORDS c =
    sheet-ends c.args.words.now (λ i. omega (arith, c.type_inv.words i))
    (layout-short _ c.if-size-lt-LEAST_WORDS.true) c.requires
    c.put_lines.auto.text c.put_lines.ensures

-- A GRAPH SHEET
pub put_records-requires : goal.put_records-requires
put_records-requires c =
    let words : List ℕ = c.args.words.now in
    let first : Header = let h = c.read_header-graph.result in header_of h.records h.blocks h.edges in
    let q = c.read_header-graph.ensures.edges_value in
    let e = layout-graph words q c.if-size-blocks_end.true in
    record { le_header = (omega (arith, header-least words, ap (λ (h : Header). h.records) q), omega arith); edges_at_value = (omega (arith, total-replicate 2 first.blocks), omega (arith, c.if-size-blocks_end.true)); words_in_bounds = sheet-fits words (λ i. omega (arith, c.type_inv.words i)) e c.requires }

pub returns-then-size-blocks_end : goal.returns-then-size-blocks_end
returns-then-size-blocks_end c =
    sheet-ends c.args.words.now (λ i. omega (arith, c.type_inv.words i))
    (layout-graph _ c.read_header-graph.ensures.edges_value c.if-size-blocks_end.true) c.requires
    c.put_records.auto.text c.put_records.ensures

pub returns-then-size-copies_end : goal.returns-then-size-copies_end
returns-then-size-copies_end c =
    sheet-ends c.args.words.now (λ i. omega (arith, c.type_inv.words i))
    (layout-bounded _ c.read_header-graph.ensures.edges_value c.if-size-blocks_end.false c.read_heading-bounded.ensures.largest_value
    c.if-size-copies_end.true) c.requires
    c.put_records-then-size-copies_end.auto.text c.put_records-then-size-copies_end.ensures

-- ANY OTHER ROW
pub put_lines-requires-2 : goal.put_lines-requires-2
put_lines-requires-2 c =
    let words : List ℕ = c.args.words.now in
    let e = layout-other words c.read_header-graph.ensures.edges_value c.if-size-blocks_end.false c.read_heading-bounded.ensures.largest_value c.if-size-copies_end.false in
    record { le_width = omega arith; width_in_bounds = omega (arith, total-replicate 1 (length words)); words_in_bounds = omega (arith, sheet-fits words (λ i. omega (arith, c.type_inv.words i)) e c.requires) }

pub returns : goal.returns
returns c =
    sheet-ends c.args.words.now (λ i. omega (arith, c.type_inv.words i))
    (layout-other _ c.read_header-graph.ensures.edges_value c.if-size-blocks_end.false c.read_heading-bounded.ensures.largest_value
    c.if-size-copies_end.false) c.requires
    c.put_lines-2.auto.text c.put_lines-2.ensures

-- A BOUNDED SHEET
pub put_records-requires-then-size-copies_end : goal.put_records-requires-then-size-copies_end
put_records-requires-then-size-copies_end c =
    let words : List ℕ = c.args.words.now in
    let second : Heading = let h = c.read_heading-bounded.result in heading_of h.records h.copies h.edges h.largest in
    let q = c.read_heading-bounded.ensures.largest_value in
    let e = layout-bounded words c.read_header-graph.ensures.edges_value c.if-size-blocks_end.false q c.if-size-copies_end.true in
    record { le_header = (omega (arith, heading-least words, ap (λ (h : Heading). h.records) q), omega arith); edges_at_value = (omega (arith, total-replicate 3 second.copies), omega (arith, c.if-size-copies_end.true)); words_in_bounds = sheet-fits words (λ i. omega (arith, c.type_inv.words i)) e c.requires }
