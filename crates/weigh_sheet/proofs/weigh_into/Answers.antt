-- The row holds the sheet's graph, and weighing it fills the area; then block 1 is looked up at the budget.
use Rattle.std.proofs.Common.{ap, arith}
use Rattle.base.specs.Options.{option_in}
use Rattle.formats.specs.GraphSheet.{Header}
use Rattle.weigh_sheet.proofs.Answers.{row-ready, start_cell, start-low, fits, fits_not}
use Rattle.weigh_sheet.proofs.weigh_into.Goals as goal

pub invariant_of-layout : goal.invariant_of-layout
invariant_of-layout c = record { small = (omega (arith, c.args.sheet.sound.sound.form.blocks.1), c.requires.room.0) }

pub weigh-requires-clause-ready : goal.weigh-requires-clause-ready
weigh-requires-clause-ready c =
    let q = c.args.sheet.sound.header in
    row-ready _ _ _ (rw q at c.args.sheet.sound.sound) c.requires.room.0 c.requires.room.1 (rw q at c.flatten.ensures.decoded) (ap (λ (h : Header). h.blocks) q)

pub look_up-requires : goal.look_up-requires
look_up-requires c =
    let q = c.args.sheet.sound.header in
    let p = start_cell _ _ _ (rw q at c.args.sheet.sound.sound) c.requires.room.0 c.requires.room.1 (rw q at c.flatten.ensures.decoded)
    (ap (λ (h : Header). h.blocks) q) c.weigh.ensures in
    record { inside = (omega arith, p.0, omega arith); has_cell = p.1 }

pub returns-in-None-clause-value : goal.returns-in-None-clause-value
returns-in-None-clause-value c =
    let q = c.args.sheet.sound.header in
    fits_not _ _ (start-low _ _ _ (rw q at c.args.sheet.sound.sound) c.requires.room.0 c.requires.room.1 (rw q at c.flatten.ensures.decoded)
    (ap (λ (h : Header). h.blocks) q) c.weigh.ensures _ c.look_up.ensures.low_value) (ap option_in c.in-None.is)

pub returns-in-Some-clause-value : goal.returns-in-Some-clause-value
returns-in-Some-clause-value c =
    let q = c.args.sheet.sound.header in
    fits _ _ (start-low _ _ _ (rw q at c.args.sheet.sound.sound) c.requires.room.0 c.requires.room.1 (rw q at c.flatten.ensures.decoded)
    (ap (λ (h : Header). h.blocks) q) c.weigh.ensures _ c.look_up.ensures.low_value) (ap option_in c.in-Some.is)
