-- The row keeps the byte where it has room; the last one makes the sheet whole.
use Rattle.std.proofs.Common.{refl, ◌∙◌, arith}
use Rattle.framing.proofs.Turns.{silent, sheet-byte, last_byte}
use Rattle.framing.proofs.sheet_byte.Goals as goal

pub whole_sheet-requires-clause-ready : goal.whole_sheet-requires-clause-ready
whole_sheet-requires-clause-ready c = (c.requires.able.ready, c.requires.able.next refl)

pub returns-then-left-le1 : goal.returns-then-left-le1
returns-then-left-le1 c =
    let size = c.keep_byte-count.auto.row ∙ c.requires.able.size in
    record {
      able_2 = (c.whole_sheet.ensures.able _ size, c.whole_sheet.ensures.size_in_bounds);
      feeds = λ xs said H. last_byte _ H _ c.keep_byte-count.ensures.by_index c.whole_sheet.ensures.closes c.if-left-le1.true refl size;
    }

pub returns : goal.returns
returns c =
    let A = c.requires.able in
    record {
      able_2 = (record { ready = A.ready; size = c.keep_byte-count.auto.row ∙ A.size; kept = c.keep_byte-count.ensures.upper_bound; next = A.next }, omega arith);
      feeds = λ xs said H. silent (sheet-byte _ H _ c.keep_byte-count.ensures.by_index c.if-left-le1.false);
    }
