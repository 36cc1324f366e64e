-- The records of a chain stand together, from its first edge on.
use Rattle.std.proofs.Common.{arith}
use Rattle.formats.proofs.RuleRead.{chain-inside}
use Rattle.bounded_check.proofs.Sheet.{ruled}
use Rattle.reader.proofs.Places.{no_edges, some_edges}
use Rattle.reader.proofs.place_of.Goals as goal

pub returns-then-first-eq0 : goal.returns-then-first-eq0
returns-then-first-eq0 c =
    rw c.edges_at-base.ensures (no_edges _ _ (ruled c.args.sheet.ruled) _ c.requires c.first_edge-first.ensures.0 c.if-first-eq0.true)

pub chain_length-count-requires : goal.chain_length-count-requires
chain_length-count-requires c =
    let R = ruled c.args.sheet.ruled in
    rw c.edges_at-base.ensures (omega (arith, R.form.size), chain-inside _ _ R c.requires.0 c.requires.1 c.first_edge-first.ensures.0)

pub returns : goal.returns
returns c =
    let e = c.edges_at-base.ensures in
    rw e
    (some_edges _ _ (ruled c.args.sheet.ruled) _ c.requires c.first_edge-first.ensures.0 (rw e at c.chain_length-count.ensures.0) c.if-first-eq0.false)
