-- Nothing fits, the budget's number or the walk is out of shape, or the monitor replies.
use Rattle.std.proofs.Common.{refl, sym, arith}
use Rattle.std.proofs.lemmas.Result.{err_from_is_err_and}
use Rattle.base.proofs.Refusals.{is-refused}
use Rattle.formats.proofs.Handler.{accepted-with}
use Rattle.calls.proofs.Weigh.{front-passes}
use Rattle.weigh_sheet.proofs.Answers.{front-leaves, front-passed}
use Rattle.weigh_sheet.proofs.Rows.{any-rows}
use Rattle.walk.specs.Walks.{walk_of, reply_of}
use Rattle.guarded_moves.proofs.Weighed.{area-table, blocks-decoded, number_is, counted, listed, within}
use Rattle.guarded_moves.proofs.Answers.{weigh-refused, number-refused, shape-refused, in-shape, monitor-replies}
use Rattle.guarded_moves.proofs.guard.Goals as goal

pub weigh_into-requires : goal.weigh_into-requires
weigh_into-requires c =
    let S = c.args.sheet.sound in
    let q = S.header in
    let p = front-leaves _ _ _ c.requires c.lowered_largest-largest.ensures.0 in
    record { room = p; rows = any-rows (rw q at S.sound) p.0 }

pub returns-in_err-weigh_into : goal.returns-in_err-weigh_into
returns-in_err-weigh_into c =
    let a = c.args in
    let p = err_from_is_err_and c.from_residual.result c.from_residual.ensures.1 in
    let weighs = front-passed _ _ _ c.requires c.lowered_largest-largest.ensures.0 c.in_err-weigh_into.ensures.value c.in_err-weigh_into.ensures.area_after in
    let whole = weigh-refused a.sheet.records.words.now a.handler a.area.now (walk_of a.walk) a.choice weighs (is-refused _) in
    rw (p.1, p.2) (record { answer_value = whole.0; walk_value = whole.1.0; area_after = whole.1.1 })

pub returns-then-is_outside : goal.returns-then-is_outside
returns-then-is_outside c =
    let a = c.args in
    let ok = (front-passes _ (sym c.requires)).0 in
    let l = c.lowered_largest-largest.ensures.0 in
    let f = c.in_ok-weigh_into.ensures.area_after in
    let weighs = front-passed _ _ _ c.requires l c.in_ok-weigh_into.ensures.value f in
    let out = number_is _ _ ok a.sheet.sound.budgets _ c.is_outside.ensures c.if-is_outside.true in
    let whole = number-refused a.sheet.records.words.now a.handler a.area.now (walk_of a.walk) a.choice weighs refl l f out in
    record { answer_value = whole.0; walk_value = whole.1.0; area_after = whole.1.1 }

pub lowered_budget-budget-requires : goal.lowered_budget-budget-requires
lowered_budget-budget-requires c =
    let ok = (front-passes _ (sym c.requires)).0 in
    let A = accepted-with _ _ ok in
    record {
      least_words_in_bounds = (A.sheet.long, A.sheet.there);
      le_index = counted _ _ ok c.args.sheet.sound.budgets _ c.is_outside.ensures c.if-is_outside.false;
    }

pub invariant_of-layout : goal.invariant_of-layout
invariant_of-layout c =
    let S = c.args.sheet.sound in
    record { small = (omega (arith, S.sound.form.blocks.1), (front-leaves _ _ _ c.requires c.lowered_largest-largest.ensures.0).0) }

pub returns-then-out_of_shape : goal.returns-then-out_of_shape
returns-then-out_of_shape c =
    let a = c.args in
    let l = c.lowered_largest-largest.ensures.0 in
    let f = c.in_ok-weigh_into.ensures.area_after in
    let D = c.in_ok-weigh_into.ensures.decoded in
    let weighs = front-passed _ _ _ c.requires l c.in_ok-weigh_into.ensures.value f in
    let whole = shape-refused a.sheet.records.words.now a.handler a.area.now (walk_of a.walk) a.choice weighs refl l f D
    (blocks-decoded a.sheet.sound.header D) c.lowered_budget-budget.ensures.0 c.out_of_shape.ensures c.if-out_of_shape.true in
    record { answer_value = whole.0; walk_value = whole.1.0; area_after = whole.1.1 }

pub monitor_reply-requires : goal.monitor_reply-requires
monitor_reply-requires c =
    let a = c.args in
    let ok = (front-passes _ (sym c.requires)).0 in
    let l = c.lowered_largest-largest.ensures.0 in
    let b = c.lowered_budget-budget.ensures.0 in
    let f = c.in_ok-weigh_into.ensures.area_after in
    let D = c.in_ok-weigh_into.ensures.decoded in
    let e = blocks-decoded a.sheet.sound.header D in
    let weighs = front-passed _ _ _ c.requires l c.in_ok-weigh_into.ensures.value f in
    let fits = within _ _ ok a.sheet.sound.budgets _ c.is_outside.ensures c.if-is_outside.false b l in
    let shape = in-shape a.sheet.records.words.now a.handler a.area.now (walk_of a.walk) a.choice weighs refl l f D e b
    c.out_of_shape.ensures c.if-out_of_shape.false in
    record { table = area-table _ _ _ weighs refl l f D; in_shape = (e, fits.0, shape) }

pub returns : goal.returns
returns c =
    let a = c.args in
    let ok = (front-passes _ (sym c.requires)).0 in
    let l = c.lowered_largest-largest.ensures.0 in
    let f = c.in_ok-weigh_into.ensures.area_after in
    let D = c.in_ok-weigh_into.ensures.decoded in
    let weighs = front-passed _ _ _ c.requires l c.in_ok-weigh_into.ensures.value f in
    let p = listed _ _ ok a.sheet.sound.budgets _ c.is_outside.ensures c.if-is_outside.false in
    let whole = monitor-replies a.sheet.records.words.now a.handler a.area.now (walk_of a.walk) a.choice weighs refl l f D
    (blocks-decoded a.sheet.sound.header D) c.lowered_budget-budget.ensures.0 c.out_of_shape.ensures p
    c.if-out_of_shape.false (reply_of a.walk c.monitor_reply.result) c.monitor_reply.ensures in
    record { answer_value = whole.0; walk_value = whole.1.0; area_after = whole.1.1 }
