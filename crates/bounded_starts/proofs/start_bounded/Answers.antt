-- The sheet is refused, the budget's number is, or the walk sets out from the budget's entry, or is stopped where there is none.
use Rattle.std.proofs.Common.{refl, sym, ap, ◌∙◌, arith}
use Rattle.std.proofs.lemmas.Result.{err_from_is_err_and}
use Rattle.base.proofs.Orders.{inside_of}
use Rattle.base.specs.Refusals.{number_of}
use Rattle.calls.specs.Moves.{Budgeted}
use Rattle.bounded_check.specs.Ruled.{entry_word}
use Rattle.bounded_starts.proofs.Answers.{Begins, rule-refused, number-refused, stops, goes}
use Rattle.bounded_starts.proofs.start_bounded.Goals as goal

pub returns-in_err-sheet : goal.returns-in_err-sheet
returns-in_err-sheet c =
    let a = c.args in
    let p = err_from_is_err_and c.from_residual.result c.from_residual.ensures.1 in
    let whole : (s : Budgeted) → Begins a.words.now s a.budget (number_of c.in_err-sheet.field-0.0) s
    = λ s. rule-refused a.words.now s a.budget _ c.in_err-sheet.ensures.answer in
    rw (p.1, p.2) (record { answer_value = λ s. (whole s).0; walk_value = λ s. (whole s).1 })

pub returns-then-is_outside : goal.returns-then-is_outside
returns-then-is_outside c =
    let a = c.args in
    let w = c.in_ok-sheet.ensures.words in
    let whole : (s : Budgeted) → Begins a.words.now s a.budget 33 s
    = λ s. number-refused a.words.now s a.budget (rw w at c.in_ok-sheet.sheet.ruled) c.is_outside.ensures c.if-is_outside.true in
    record { answer_value = λ s. (whole s).0; walk_value = λ s. (whole s).1 }

pub entry-requires : goal.entry-requires
entry-requires c = inside_of 1 _ _ (sym c.is_outside.ensures ∙ c.if-is_outside.false)

pub returns-in-None : goal.returns-in-None
returns-in-None c =
    let a = c.args in
    let w = c.in_ok-sheet.ensures.words in
    let e = ap entry_word (sym c.in-None.is) ∙ rw w at c.entry.ensures.word in
    let whole = λ (s : Budgeted). stops a.words.now s a.budget (rw w at c.in_ok-sheet.sheet.ruled) c.is_outside.ensures c.if-is_outside.false
    e refl c.stop.ensures in
    record { answer_value = λ s. (whole s).0; walk_value = λ s. (whole s).1 }

pub returns-in-Some : goal.returns-in-Some
returns-in-Some c =
    let a = c.args in
    let w = c.in_ok-sheet.ensures.words in
    let e = ap entry_word (sym c.in-Some.is) ∙ rw w at c.entry.ensures.word in
    let p = rw c.in-Some.is at c.entry.ensures.copy in
    let whole = λ (s : Budgeted). goes a.words.now s a.budget (rw w at c.in_ok-sheet.sheet.ruled) c.is_outside.ensures c.if-is_outside.false
    e (λ z. omega (arith, p.0)) c.set_out.ensures in
    record { answer_value = λ s. (whole s).0; walk_value = λ s. (whole s).1 }
