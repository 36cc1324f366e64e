-- The count of the call behind it, unless that refuses.
use Rattle.std.proofs.Common.{ap}
use Rattle.base.proofs.Orders.{refused-lent, accepted-lent}
use Rattle.base.proofs.Refusals.{is-refused}
use Rattle.formats.specs.GraphSheet.{Counted}
use Rattle.successors.specs.Counted.{counted_of}
use Rattle.gilstavo.proofs.gilstavo_count_successors.Goals as goal

pub returns-in-Ok-clause-count_after : goal.returns-in-Ok-clause-count_after
returns-in-Ok-clause-count_after c =
    accepted-lent _ _ (ap (λ (x : Counted). x.count) (rw c.in-Ok.is at c.count_successors.ensures))

pub returns-in-Err-clause-count_after : goal.returns-in-Err-clause-count_after
returns-in-Err-clause-count_after c = rw c.number.ensures (refused-lent _ _ _ (is-refused _))
