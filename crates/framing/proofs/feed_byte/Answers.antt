-- By what came behind the last whole sheet.
use Rattle.framing.proofs.Turns.{silent, feeds_by, first_byte}
use Rattle.framing.proofs.feed_byte.Goals as goal

pub returns-in-Between-clause-feeds : goal.returns-in-Between-clause-feeds
returns-in-Between-clause-feeds c = feeds_by c.in-Between.is (λ xs said H. silent (first_byte _ H))

pub returns-in-Half-clause-feeds : goal.returns-in-Half-clause-feeds
returns-in-Half-clause-feeds c = feeds_by c.in-Half.is c.length_byte.ensures.feeds

pub returns-in-Within-clause-feeds : goal.returns-in-Within-clause-feeds
returns-in-Within-clause-feeds c = feeds_by c.in-Within.is c.sheet_byte.ensures.feeds
