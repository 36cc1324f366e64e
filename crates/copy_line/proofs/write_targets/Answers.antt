-- The targets are written down the chain; each turn writes the next one, and the rest is due.
use Rattle.std.proofs.Common.{◌+◌, ◌*◌, ◌≤◌, arith, length}
use Rattle.formats.proofs.Chains.{inside-here}
use Rattle.copy_line.proofs.Targets.{going-room, going_on, chain-ends, fuel-ends}
use Rattle.copy_line.proofs.write_targets.Goals as goal

pub returns-then-edge-eq0 : goal.returns-then-edge-eq0
returns-then-edge-eq0 c = chain-ends _ _ _ _ c.loop-left.invariant c.if-edge-eq0.true

pub field-target-requires : goal.field-target-requires
field-target-requires c =
    let here : let a = c.args in let e = c.loop-left.edge in (1 ≤ e) × (a.base + 2 * e ≤ length a.words.now) = let i = inside-here _ c.loop-left.invariant.inside c.loop-left-test.true c.if-edge-eq0.false in
    (i.0, omega (arith, i.1, c.requires.edges_in_bounds.0)) in
    ((here).0, omega arith, (here).1)

pub put_number-place-requires : goal.put_number-place-requires
put_number-place-requires c = going-room _ _ _ _ c.loop-left.invariant c.loop-left-test.true c.if-edge-eq0.false c.field-target.ensures.0

pub field-edge-requires : goal.field-edge-requires
field-edge-requires c =
    let here : let a = c.args in let e = c.loop-left.edge in (1 ≤ e) × (a.base + 2 * e ≤ length a.words.now) = let i = inside-here _ c.loop-left.invariant.inside c.loop-left-test.true c.if-edge-eq0.false in
    (i.0, omega (arith, i.1, c.requires.edges_in_bounds.0)) in
    let i = here in (i.0, omega arith, i.1)

pub loop-left-preserved : goal.loop-left-preserved
loop-left-preserved c =
    going_on _ _ _ _ c.loop-left.invariant c.loop-left-test.true c.if-edge-eq0.false c.field-target.ensures.0
    c.put_number-place.ensures c.put_number-place.auto.text c.field-edge.ensures.0

pub returns : goal.returns
returns c = fuel-ends _ _ _ _ c.loop-left.invariant (omega arith)
