-- What the converter refuses is refused, and what it leaves at the front of the row is written.
use Rattle.std.proofs.Common.{◌≡◌, sym, ap, ◌∙◌, List, ℕ, ◌≤◌, arith, length, replicate, length-take-le}
use Rattle.base.proofs.Lists.{zeros-room}
use Rattle.base.proofs.Refusals.{is-refused}
use Rattle.base.specs.Checks.{refused}
use Rattle.formats.specs.GraphSheet.{header, sheet_length}
use Rattle.formats.specs.Listing.{refusal_of}
use Rattle.formats.proofs.Files.{bytes-length}
use Rattle.digits.proofs.Due.{wrote_as}
use Rattle.operation_sheet.specs.Operations.{operation_order, convert}
use Rattle.operation_sheet.proofs.Conversion.{accepted}
use Rattle.operation_file.specs.Longer.{most_graph}
use Rattle.operation_file.proofs.Files.{sheet-refused, graph-fits, convert_answer, row-bytes}
use Rattle.operation_file.proofs.write_converted.Goals as goal

-- the row that is lent to the converter
abbrev row : List ℕ
row = replicate most_graph 0

row_room : most_graph ≤ length row
row_room = zeros-room most_graph most_graph (omega arith)

-- what it accepts is an operation sheet
ok : (w : List ℕ) → 0 ≡ (convert w row).answer → refused operation_order w ≡ 0
ok w e = sym (convert_answer w row row_room) ∙ sym e

-- and its graph sheet fits
fits : (w : List ℕ) {size : ℕ} → 0 ≡ (convert w row).answer → size ≡ sheet_length (header w) → size ≤ most_graph
fits w e s = omega (arith, graph-fits w (ok w e))

pub read_header-header-requires : goal.read_header-header-requires
read_header-header-requires c = (accepted _ (ok _ c.in-Ok.ensures.value)).long

pub slice_bounds-graph-end : goal.slice_bounds-graph-end
slice_bounds-graph-end c =
    let s = ap sheet_length c.read_header-header.ensures.edges_value in
    omega (arith, fits _ c.in-Ok.ensures.value s, row_room)

pub slice_bounds-put_words-end : goal.slice_bounds-put_words-end
slice_bounds-put_words-end c =
    let s = ap sheet_length c.read_header-header.ensures.edges_value in
    sym (length-take-le _ _ (omega (arith, fits _ c.in-Ok.ensures.value s, row_room)))

pub put_words-requires : goal.put_words-requires
put_words-requires c =
    let s = ap sheet_length c.read_header-header.ensures.edges_value in
    omega (arith, bytes-length, length-take-le {A = ℕ}, fits _ c.in-Ok.ensures.value s, row_room)

pub returns-in-Ok : goal.returns-in-Ok
returns-in-Ok c =
    let s = ap sheet_length c.read_header-header.ensures.edges_value in
    let e = c.in-Ok.ensures.value in
    let r = c.put_words.ensures in (
      wrote_as r (row-bytes _ row row_room (sym e) c.convert_operations.ensures.out_after s),
      omega (arith, bytes-length, length-take-le {A = ℕ}, fits _ e s, row_room),
    )

pub returns-in-Err : goal.returns-in-Err
returns-in-Err c =
    let r = c.write_refusal.ensures in
    let answer = c.in-Err.ensures.value ∙ convert_answer _ row row_room in
    (wrote_as r.0 (ap refusal_of c.number.ensures ∙ sym (sheet-refused _ _ (sym answer) (is-refused c.in-Err.refusal))), r.1)
