-- The length is the two bytes together.
use Rattle.std.proofs.Common.{refl, sym, ◌∙◌, arith}
use Rattle.framing.proofs.Turns.{silent, second-byte, empty-sheet}
use Rattle.framing.proofs.length_byte.Goals as goal

pub returns-then-words-eq0 : goal.returns-then-words-eq0
returns-then-words-eq0 c =
    record {
      able_2 = (c.whole_sheet.ensures.able _ c.requires.able.size, c.whole_sheet.ensures.size_in_bounds);
      feeds = λ xs said H. empty-sheet _ H c.whole_sheet.ensures.closes (sym c.joined-words.ensures ∙ c.if-words-eq0.true) refl;
    }

pub returns : goal.returns
returns c =
    let A = c.requires.able in
    record {
      able_2 = (record { ready = A.ready; size = A.size; kept = omega arith; next = A.next }, omega arith);
      feeds = λ xs said H. silent (second-byte _ H _ c.joined-words.ensures c.if-words-eq0.false);
    }
