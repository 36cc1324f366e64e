-- A copy's targets are those of its chain, from the first edge that was read on.
use Rattle.std.proofs.Common.{ap, ◌∙◌, ℕ, suc, arith}
use Rattle.base.specs.Lists.{chosen}
use Rattle.formats.specs.Words.{targets_from}
use Rattle.formats.specs.BoundedSheet.{edges_at, chain_at, targets_at}
use Rattle.formats.proofs.RuleRead.{chain-inside}
use Rattle.bounded_records.specs.Records.{heading_in}
use Rattle.bounded_check.proofs.Sheet.{ruled}
use Rattle.bounded_moves.proofs.bounded_target.Goals as goal

pub nth_target-requires : goal.nth_target-requires
nth_target-requires c =
    let R = ruled c.args.sheet.ruled in
    record {
      edges_in_bounds = (omega (arith, R.form.size), R.form.edges.1);
      inside = chain-inside _ _ R c.requires.0 c.requires.1 c.first_edge-first.ensures.0;
    }

pub returns : goal.returns
unfolding chain_at targets_at
returns c =
    let r = c.args.sheet.records in
    c.nth_target.ensures
    ∙ ap (λ (e : ℕ). chosen (targets_from r.words.now (edges_at (heading_in r)) (suc r.edges) e) c.args.choice) c.first_edge-first.ensures.0
