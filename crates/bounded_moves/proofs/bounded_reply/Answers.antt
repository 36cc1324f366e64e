-- One case of the reply for each return.
use Rattle.std.proofs.Common.{sym, ap, ◌∙◌}
use Rattle.theory.specs.Walks.{bounded_walk}
use Rattle.base.specs.Options.{option_in}
use Rattle.bounded_records.specs.Records.{heading_in}
use Rattle.walk.specs.Walks.{state_of}
use Rattle.walk.proofs.Shape.{ended_is, going-is}
use Rattle.walk.proofs.Replies.{ended}
use Rattle.bounded_moves.specs.Bounded.{bounded_at}
use Rattle.bounded_moves.proofs.Replies.{missing, diverts, enters}
use Rattle.bounded_moves.proofs.bounded_reply.Goals as goal

pub returns-then-has_ended : goal.returns-then-has_ended
unfolding bounded_walk
returns-then-has_ended c =
    let a = c.args in
    ended (bounded_walk (bounded_at (heading_in a.sheet.records) a.exit a.sheet.records.words.now)) a.walk.budget (state_of a.walk) a.choice
    (ended_is c.has_ended.ensures c.if-has_ended.true)

pub returns-in-None : goal.returns-in-None
returns-in-None c =
    let a = c.args in
    missing (bounded_at (heading_in a.sheet.records) a.exit a.sheet.records.words.now) a.walk.budget (state_of a.walk) a.choice
    (going-is _ c.has_ended.ensures c.if-has_ended.false) (ap option_in (sym c.in-None.is) ∙ c.bounded_target.ensures)

pub returns-in-Some-eq0 : goal.returns-in-Some-eq0
returns-in-Some-eq0 c =
    let a = c.args in
    diverts (bounded_at (heading_in a.sheet.records) a.exit a.sheet.records.words.now) a.walk.budget (state_of a.walk) a.choice
    (going-is _ c.has_ended.ensures c.if-has_ended.false) (ap option_in (sym c.in-Some-eq0.is) ∙ c.bounded_target.ensures)
    c.in-Some-eq0.field-0-test c.divert.ensures

pub returns-in-Some : goal.returns-in-Some
returns-in-Some c =
    let a = c.args in
    enters (bounded_at (heading_in a.sheet.records) a.exit a.sheet.records.words.now) a.walk.budget (state_of a.walk) a.choice
    (going-is _ c.has_ended.ensures c.if-has_ended.false) (ap option_in (sym c.in-Some.is) ∙ c.bounded_target.ensures)
    c.in-Some.target-test.1 c.enter.ensures
