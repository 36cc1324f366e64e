-- The sheet is checked, then the copy; a refusal hands out nothing, else the place is handed on.
use Rattle.std.proofs.lemmas.Result.{err_from_is_err_and}
use Rattle.reader.proofs.Answers.{sheet-refused, copy-refused, copy-inside, handed}
use Rattle.reader.proofs.edge_words_place.Goals as goal

pub returns-in_err-sheet-clause-answer : goal.returns-in_err-sheet-clause-answer
returns-in_err-sheet-clause-answer c =
    let p = err_from_is_err_and c.from_residual.result c.from_residual.ensures.1 in
    rw (p.1, p.2) (sheet-refused _ _ _ c.in_err-sheet.ensures.answer).0

pub returns-in_err-sheet-clause-refused : goal.returns-in_err-sheet-clause-refused
returns-in_err-sheet-clause-refused c =
    let p = err_from_is_err_and c.from_residual.result c.from_residual.ensures.1 in
    rw p.1 (sheet-refused _ _ _ c.in_err-sheet.ensures.answer).1

pub returns-then-is_outside-clause-answer : goal.returns-then-is_outside-clause-answer
returns-then-is_outside-clause-answer c =
    let s = c.in_ok-sheet.ensures.words in
    (copy-refused _ _ (rw s at c.in_ok-sheet.sheet.ruled) c.is_outside.ensures c.if-is_outside.true).0

pub returns-then-is_outside-clause-refused : goal.returns-then-is_outside-clause-refused
returns-then-is_outside-clause-refused c =
    let s = c.in_ok-sheet.ensures.words in
    (copy-refused _ _ (rw s at c.in_ok-sheet.sheet.ruled) c.is_outside.ensures c.if-is_outside.true).1

pub place_of-requires : goal.place_of-requires
place_of-requires c = copy-inside _ _ c.in_ok-sheet.sheet.ruled c.is_outside.ensures c.if-is_outside.false

pub returns-clause-answer : goal.returns-clause-answer
returns-clause-answer c =
    let s = c.in_ok-sheet.ensures.words in
    (handed _ _ (rw s at c.in_ok-sheet.sheet.ruled) c.is_outside.ensures c.if-is_outside.false (rw s at c.place_of.ensures)).0

pub returns-clause-placed : goal.returns-clause-placed
returns-clause-placed c =
    let s = c.in_ok-sheet.ensures.words in
    (handed _ _ (rw s at c.in_ok-sheet.sheet.ruled) c.is_outside.ensures c.if-is_outside.false (rw s at c.place_of.ensures)).1
