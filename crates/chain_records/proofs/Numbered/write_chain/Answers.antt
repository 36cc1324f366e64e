-- With the records of the edges left the row is that of the chain.
use Rattle.std.proofs.Common.{◌-◌, ◌∙◌, refl, ap, ap₂, ℕ, List, get_or, length, arith}
use Rattle.formats.specs.BoundedSheet.{edge_records}
use Rattle.graph_row.proofs.Successors.{listed-fits}
use Rattle.put_words.specs.Put.{put_words}
use Rattle.chain_records.specs.Founds.{graph_of, copies_of}
use Rattle.chain_records.proofs.Chain.{words, place, walked_on, walked_end, chain_words}
use Rattle.chain_records.proofs.Numbered.write_chain.Goals as goal

pub number-number-requires : goal.number-number-requires
number-number-requires c =
    let s = c.successors-targets.ensures in
    let f = c.args.self.now in
    let t =
    listed-fits f.graph.flat c.args.block c.loop-target.target-index (omega (arith, c.loop-target-test.true, ap length s))
    (ap (λ (ts : List ℕ). get_or ts c.loop-target.target-index 0) s) in
    (omega (arith, t.0), omega (arith, t.1, f.blocks), omega (arith, c.requires.copy.3))

pub loop-target-preserved : goal.loop-target-preserved
loop-target-preserved c =
    walked_on c.loop-target.invariant c.loop-target-test.true refl c.number-number.ensures.value c.first_edge-next.ensures.1 c.put_two.ensures

pub returns-clause-out_after : goal.returns-clause-out_after
returns-clause-out_after c =
    let f = c.args.self.now in
    walked_end c.loop-target.invariant c.loop-target-test.false
    ∙ ap (λ (ws : List ℕ). put_words c.args.output.now (place c.args.at c.args.first) (edge_records c.args.first ws))
    (ap₂ (λ (k : ℕ) (ts : List ℕ). words (graph_of f) (copies_of f) (c.args.low - k) ts) c.cost.ensures.value c.successors-targets.ensures
    ∙ chain_words (graph_of f) (copies_of f) c.args.block c.args.low)
