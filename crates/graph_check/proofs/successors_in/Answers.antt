-- A block's chain meets no edge above the last, and its targets are the block's successors.
use Rattle.std.proofs.Common.{arith, ap, ◌∙◌, suc}
use Rattle.formats.specs.Words.{targets_from}
use Rattle.formats.specs.GraphSheet.{edges_at}
use Rattle.formats.proofs.Accepted.{chain-inside}
use Rattle.graph_records.specs.Records.{header_in}
use Rattle.graph_check.proofs.Successors.{successors-are, successors_few}
use Rattle.graph_check.proofs.successors_in.Goals as goal

pub new-requires : goal.new-requires
new-requires c =
    let S = c.requires.sound in
    record { room = omega (arith, S.form.size); inside = chain-inside _ _ S c.requires.block.0 c.requires.block.1 c.first_edge-first.ensures.0 }

pub returns : goal.returns
returns c =
    let r = c.args.records in
    let is = c.new.ensures.value ∙ ap (targets_from r.words.now (edges_at (header_in r)) (suc r.edges)) c.first_edge-first.ensures.0
    ∙ successors-are _ _ _ c.requires.block.0 c.requires.block.1 in
    record { value = is; few = rw is (successors_few _ _ c.requires.sound _ c.requires.block.0 c.requires.block.1) }
