-- One case of the monitor's reply for each return.
use Rattle.std.proofs.Common.{arith}
use Rattle.walk.specs.Walks.{state_of}
use Rattle.guarded_moves.proofs.Choices.{choice-fits}
use Rattle.guarded_moves.proofs.Replies.{ended, unchosen, target, target_cell, diverts, count_fits, enters}
use Rattle.guarded_moves.proofs.monitor_reply.Goals as goal

pub returns-then-has_ended : goal.returns-then-has_ended
returns-then-has_ended c =
    let a = c.args in
    ended a.graph.flat c.requires.table a.budget a.walk.budget (state_of a.walk) a.choice c.requires.in_shape c.has_ended.ensures c.if-has_ended.true

pub returns-then-is_outside : goal.returns-then-is_outside
returns-then-is_outside c =
    let a = c.args in
    unchosen a.graph.flat c.requires.table a.budget a.walk.budget (state_of a.walk) a.choice c.requires.in_shape c.has_ended.ensures
    c.if-has_ended.false c.successors-successors.ensures c.is_outside.ensures c.if-is_outside.true

pub overflow_sub-target : goal.overflow_sub-target
overflow_sub-target c =
    let a = c.args in
    (choice-fits a.graph.flat a.walk.place a.choice c.successors-successors.ensures c.is_outside.ensures c.if-is_outside.false).0

pub bounds-successors-choice : goal.bounds-successors-choice
bounds-successors-choice c =
    let a = c.args in
    let p = choice-fits a.graph.flat a.walk.place a.choice c.successors-successors.ensures c.is_outside.ensures c.if-is_outside.false in
    omega (arith, p.0, p.1)

pub look_up-requires : goal.look_up-requires
look_up-requires c =
    let a = c.args in
    let t = target a.graph.flat c.requires.table a.budget a.walk.budget (state_of a.walk) a.choice c.requires.in_shape c.has_ended.ensures
    c.if-has_ended.false c.successors-successors.ensures c.is_outside.ensures c.if-is_outside.false in
    let p = target_cell a.graph.flat c.requires.table a.budget a.walk.budget (state_of a.walk) a.choice c.requires.in_shape c.has_ended.ensures
    c.if-has_ended.false c.successors-successors.ensures c.is_outside.ensures c.if-is_outside.false in
    record { inside = (t.0, p.0, p.1); has_cell = p.2 }

pub returns-in-None : goal.returns-in-None
returns-in-None c =
    let a = c.args in
    diverts a.graph.flat c.requires.table a.budget a.walk.budget (state_of a.walk) a.choice c.requires.in_shape c.has_ended.ensures
    c.if-has_ended.false c.successors-successors.ensures c.is_outside.ensures c.if-is_outside.false c.look_up.result.low c.look_up.ensures.low_value
    c.in-None.is c.divert.ensures

pub cost-cost-requires : goal.cost-cost-requires
cost-cost-requires c =
    let a = c.args in
    target a.graph.flat c.requires.table a.budget a.walk.budget (state_of a.walk) a.choice c.requires.in_shape c.has_ended.ensures
    c.if-has_ended.false c.successors-successors.ensures c.is_outside.ensures c.if-is_outside.false

pub enter-requires : goal.enter-requires
enter-requires c =
    let a = c.args in
    let p = count_fits a.graph.flat c.requires.table a.budget a.walk.budget (state_of a.walk) a.choice c.requires.in_shape c.has_ended.ensures
    c.if-has_ended.false c.successors-successors.ensures c.is_outside.ensures c.if-is_outside.false c.look_up.result.low c.look_up.ensures.low_value
    c.in-Some.is c.cost-cost.ensures.value in
    let t = target a.graph.flat c.requires.table a.budget a.walk.budget (state_of a.walk) a.choice c.requires.in_shape c.has_ended.ensures
    c.if-has_ended.false c.successors-successors.ensures c.is_outside.ensures c.if-is_outside.false in
    (omega (arith, t.1, a.graph.flat.blocks), omega (arith, p, a.layout.small.1))

pub returns-in-Some : goal.returns-in-Some
returns-in-Some c =
    let a = c.args in
    enters a.graph.flat c.requires.table a.budget a.walk.budget (state_of a.walk) a.choice c.requires.in_shape c.has_ended.ensures
    c.if-has_ended.false c.successors-successors.ensures c.is_outside.ensures c.if-is_outside.false c.look_up.result.low c.look_up.ensures.low_value
    c.in-Some.is c.cost-cost.ensures.value c.enter.ensures
