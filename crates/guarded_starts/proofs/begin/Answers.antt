-- Nothing fits the largest budget, the budget's number is refused, or block 1 is looked up.
use Rattle.std.proofs.Common.{refl, sym, ap, arith}
use Rattle.std.proofs.lemmas.Result.{err_from_is_err_and}
use Rattle.base.specs.Options.{option_in}
use Rattle.base.specs.Refusals.{number_of}
use Rattle.base.proofs.Refusals.{is-refused}
use Rattle.formats.proofs.Handler.{accepted-with}
use Rattle.calls.specs.Moves.{Budgeted}
use Rattle.calls.proofs.Weigh.{front-passes}
use Rattle.weigh_sheet.proofs.Answers.{front-leaves, front-passed}
use Rattle.walk.specs.Walks.{walk_of}
use Rattle.guarded_moves.proofs.Weighed.{sheet-table, number_is, counted, within}
use Rattle.guarded_starts.proofs.Answers.{Begins, start_cell, start-low, weigh-refused, number-refused, stops, goes}
use Rattle.guarded_starts.proofs.begin.Goals as goal

pub weigh_passed-requires : goal.weigh_passed-requires
weigh_passed-requires c = front-leaves _ _ _ c.requires c.lowered_largest-largest.ensures.0

pub returns-in_err-weigh_passed : goal.returns-in_err-weigh_passed
returns-in_err-weigh_passed c =
    let a = c.args in
    let p = err_from_is_err_and c.from_residual.result c.from_residual.ensures.1 in
    let e = c.in_err-weigh_passed.ensures in
    let weighs = front-passed _ _ _ c.requires c.lowered_largest-largest.ensures.0 e.value e.area_after in
    let whole : (s : Budgeted) → Begins a.sheet.records.words.now a.handler a.area.now s a.budget (number_of c.in_err-weigh_passed.field-0.0) s c.weigh_passed.new.area = λ s. weigh-refused a.sheet.records.words.now a.handler a.area.now s a.budget weighs (is-refused _) in
    rw (p.1, p.2) (record { answer_value = λ s. (whole s).0; walk_value = λ s. (whole s).1.0; area_after = λ s. (whole s).1.1 })

pub returns-then-is_outside : goal.returns-then-is_outside
returns-then-is_outside c =
    let a = c.args in
    let ok = (front-passes _ (sym c.requires)).0 in
    let l = c.lowered_largest-largest.ensures.0 in
    let f = c.in_ok-weigh_passed.ensures.area_after in
    let weighs = front-passed _ _ _ c.requires l c.in_ok-weigh_passed.ensures.value f in
    let out = number_is _ _ ok a.sheet.sound.budgets _ c.is_outside.ensures c.if-is_outside.true in
    let whole : (s : Budgeted) → Begins a.sheet.records.words.now a.handler a.area.now s a.budget 33 s c.weigh_passed.new.area = λ s. number-refused a.sheet.records.words.now a.handler a.area.now s a.budget weighs refl l f out in
    record { answer_value = λ s. (whole s).0; walk_value = λ s. (whole s).1.0; area_after = λ s. (whole s).1.1 }

pub lowered_budget-most-requires : goal.lowered_budget-most-requires
lowered_budget-most-requires c =
    let ok = (front-passes _ (sym c.requires)).0 in
    let A = accepted-with _ _ ok in
    record {
      least_words_in_bounds = (A.sheet.long, A.sheet.there);
      le_index = counted _ _ ok c.args.sheet.sound.budgets _ c.is_outside.ensures c.if-is_outside.false;
    }

pub invariant_of-layout : goal.invariant_of-layout
invariant_of-layout c =
    let S = c.args.sheet.sound in
    record { small = (omega (arith, S.sound.form.blocks.1), (front-leaves _ _ _ c.requires c.lowered_largest-largest.ensures.0).0) }

pub look_up-requires : goal.look_up-requires
look_up-requires c =
    let ok = (front-passes _ (sym c.requires)).0 in
    let l = c.lowered_largest-largest.ensures.0 in
    let f = c.in_ok-weigh_passed.ensures.area_after in
    let weighs = front-passed _ _ _ c.requires l c.in_ok-weigh_passed.ensures.value f in
    let fits = within _ _ ok c.args.sheet.sound.budgets _ c.is_outside.ensures c.if-is_outside.false c.lowered_budget-most.ensures.0 l in
    let S = c.args.sheet.sound in
    let n = rw (sym S.header) at (start_cell _ _ ok (sheet-table _ _ _ weighs refl l f)) in
    record { inside = (omega arith, n.0, fits.0); has_cell = n.1 }

pub returns-in-None : goal.returns-in-None
returns-in-None c =
    let a = c.args in
    let ok = (front-passes _ (sym c.requires)).0 in
    let l = c.lowered_largest-largest.ensures.0 in
    let b = c.lowered_budget-most.ensures.0 in
    let f = c.in_ok-weigh_passed.ensures.area_after in
    let weighs = front-passed _ _ _ c.requires l c.in_ok-weigh_passed.ensures.value f in
    let inside = number_is _ _ ok a.sheet.sound.budgets _ c.is_outside.ensures c.if-is_outside.false in
    let fits = within _ _ ok a.sheet.sound.budgets _ c.is_outside.ensures c.if-is_outside.false b l in
    let looked = start-low _ _ ok (sheet-table _ _ _ weighs refl l f) fits.0 _ b _ c.look_up.ensures.low_value in
    let whole : (s : Budgeted) → Begins a.sheet.records.words.now a.handler a.area.now s a.budget 0 (walk_of c.stop.result) c.weigh_passed.new.area = λ s. stops a.sheet.records.words.now a.handler a.area.now s a.budget weighs refl l f inside _ looked (ap option_in c.in-None.is)
    c.stop.ensures in
    record { answer_value = λ s. (whole s).0; walk_value = λ s. (whole s).1.0; area_after = λ s. (whole s).1.1 }

pub returns-in-Some : goal.returns-in-Some
returns-in-Some c =
    let a = c.args in
    let ok = (front-passes _ (sym c.requires)).0 in
    let l = c.lowered_largest-largest.ensures.0 in
    let b = c.lowered_budget-most.ensures.0 in
    let f = c.in_ok-weigh_passed.ensures.area_after in
    let weighs = front-passed _ _ _ c.requires l c.in_ok-weigh_passed.ensures.value f in
    let inside = number_is _ _ ok a.sheet.sound.budgets _ c.is_outside.ensures c.if-is_outside.false in
    let fits = within _ _ ok a.sheet.sound.budgets _ c.is_outside.ensures c.if-is_outside.false b l in
    let looked = start-low _ _ ok (sheet-table _ _ _ weighs refl l f) fits.0 _ b _ c.look_up.ensures.low_value in
    let whole : (s : Budgeted) → Begins a.sheet.records.words.now a.handler a.area.now s a.budget 0 (walk_of c.set_out.result) c.weigh_passed.new.area = λ s. goes a.sheet.records.words.now a.handler a.area.now s a.budget weighs refl l f inside _ looked (ap option_in c.in-Some.is)
    c.set_out.ensures in
    record { answer_value = λ s. (whole s).0; walk_value = λ s. (whole s).1.0; area_after = λ s. (whole s).1.1 }
