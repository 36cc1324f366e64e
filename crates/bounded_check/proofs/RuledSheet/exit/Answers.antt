-- The copies before that of block 2 are passed one by one.
use Rattle.std.proofs.Common.{arith}
use Rattle.bounded_check.proofs.Sheet.{ruled}
use Rattle.bounded_check.proofs.ExitPlace.{finds, last-left}
use Rattle.bounded_check.proofs.RuledSheet.exit.Goals as goal

pub returns-then-block-eq-EXIT_BLOCK-clause-value : goal.returns-then-block-eq-EXIT_BLOCK-clause-value
returns-then-block-eq-EXIT_BLOCK-clause-value c =
    (finds _ _ (ruled c.args.self.ruled) c.loop-copy.invariant c.block.ensures.0 c.if-block-eq-EXIT_BLOCK.true).0

pub returns-clause-value : goal.returns-clause-value
returns-clause-value c = (last-left _ _ (ruled c.args.self.ruled) c.loop-copy.invariant (omega arith)).0
