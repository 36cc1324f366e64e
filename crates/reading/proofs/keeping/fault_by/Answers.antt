-- By the numbers.
use Rattle.std.proofs.Common.{sym, ap, ◌∙◌, arith}
use Rattle.fault_line.specs.Faults.{what_of as what_by}
use Rattle.fault_line.proofs.Faults.{what-other, what-large, what-many}
use Rattle.reading.proofs.Told.{what-none}
use Rattle.reading.proofs.keeping.fault_by.Goals as goal

pub returns-then-fault-eq-OTHER : goal.returns-then-fault-eq-OTHER
returns-then-fault-eq-OTHER c = λ f.
    let l = f c.if-fault-eq-OTHER.true in
    sym (what-other {x = c.args.found} (omega (arith, l))) ∙ ap (λ k. what_by k c.args.found) (sym c.if-fault-eq-OTHER.true)

pub returns-then-fault-eq-LARGE : goal.returns-then-fault-eq-LARGE
returns-then-fault-eq-LARGE c = λ f. sym (what-large c.args.found) ∙ ap (λ k. what_by k c.args.found) (sym c.if-fault-eq-LARGE.true)

pub returns-then-fault-eq-MANY : goal.returns-then-fault-eq-MANY
returns-then-fault-eq-MANY c = λ f. sym (what-many c.args.found) ∙ ap (λ k. what_by k c.args.found) (sym c.if-fault-eq-MANY.true)

pub returns : goal.returns
returns c = λ f. what-none c.args.fault c.args.found c.if-fault-eq-OTHER.false c.if-fault-eq-LARGE.false c.if-fault-eq-MANY.false
