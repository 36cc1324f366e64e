-- The successors are listed, the cells cleared, and all costs settled: the area is filled.
use Rattle.std.proofs.Common.{sym, subst, ℕ, ◌+◌, arith}
use Rattle.calls.proofs.Area.{filling-filled}
use Rattle.graph_row.specs.GraphRow.{graph_in}
use Rattle.successor_masks.specs.Nexts.{Nexts}
use Rattle.successor_masks.proofs.Flat.{joined}
use Rattle.successor_masks.proofs.Successors.{nexts-none}
use Rattle.weigh.proofs.Rising.{all_right}
use Rattle.weigh.proofs.weigh.Goals as goal

pub list_all-requires : goal.list_all-requires
list_all-requires c =
    record { nexts = nexts-none (joined c.args.graph.flat) (c.requires.empty.0, omega (arith, c.requires.blocks, c.requires.empty.1)) }

pub weigh_costs-requires-clause-kept : goal.weigh_costs-requires-clause-kept
weigh_costs-requires-clause-kept c =
    let b = c.begin.ensures in
    let l = subst (λ (n : ℕ). Nexts (graph_in c.args.graph.row.now) n (n + 1) c.list_all.new.nexts) (sym c.requires.blocks) c.list_all.ensures in
    record { listed = l; fair = b.fair; mirror = b.mirror }

pub returns : goal.returns
returns c = filling-filled (c.weigh_costs.ensures.wider.filling _ c.begin.ensures.filling) (all_right c.weigh_costs.ensures.wider.fair c.weigh_costs.ensures.settled)
