-- One chain is followed; each turn meets the edge that is due, and its target, and the rest decides.
use Rattle.std.proofs.Common.{◌≡◌, ap, ◌∙◌, ◌+◌, arith}
use Rattle.record_check.specs.Records.{is_stray}
use Rattle.record_check.proofs.Edges.{chain-ends, edge-beyond, edge_other, edge-astray, edge-due}
use Rattle.record_check.proofs.chain_end.Goals as goal

pub returns-then-met-eq0 : goal.returns-then-met-eq0
returns-then-met-eq0 c = chain-ends _ _ _ c.loop-edge.invariant c.if-met-eq0.true

pub returns-then-met-edge : goal.returns-then-met-edge
returns-then-met-edge c = edge_other _ _ _ c.loop-edge.invariant c.if-met-eq0.false (omega arith) c.if-met-edge.true

pub returns-then-is_stray : goal.returns-then-is_stray
returns-then-is_stray c =
    edge-astray _ _ _ c.loop-edge.invariant c.if-met-eq0.false (omega arith) c.if-met-edge.false
    (c.is_stray.ensures ∙ ap (is_stray _ _) c.target.ensures.0) c.if-is_stray.true

pub loop-edge-preserved : goal.loop-edge-preserved
loop-edge-preserved c =
    edge-due _ _ _ c.loop-edge.invariant c.if-met-eq0.false (omega arith) c.if-met-edge.false
    (c.is_stray.ensures ∙ ap (is_stray _ _) c.target.ensures.0) c.if-is_stray.false c.next_edge-met.ensures.0

pub returns-then-met-ne0 : goal.returns-then-met-ne0
returns-then-met-ne0 c = edge-beyond _ _ _ c.loop-edge.invariant c.if-met-ne0.true (omega arith)

pub returns : goal.returns
returns c =
    let n = c.args.records.edges in
    let z : c.loop-edge.edge ≡ n + 1 = omega (arith, c.loop-edge.invariant.most) in
    rw z at (chain-ends _ _ _ c.loop-edge.invariant c.if-met-ne0.false)
