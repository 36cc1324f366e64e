-- What feeding a lent row promises, of a piece whose bytes are below 256, as the slice has it.
use Rattle.std.proofs.Common.{arith}
use Rattle.reading.proofs.Own.{feeds-own}
use Rattle.reading.proofs.keeping.Reading.feed.Goals as goal

pub returns-clause-feeds : goal.returns-clause-feeds
returns-clause-feeds c = feeds-own c.args.text.now (λ i. omega (arith, c.type_inv.text i)) _ _ c.feed-self.ensures.feeds
