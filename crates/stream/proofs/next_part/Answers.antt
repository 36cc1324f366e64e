-- One closing part more.
use Rattle.std.proofs.Common.{refl}
use Rattle.stream.proofs.Ends.{closed-next}
use Rattle.stream.proofs.next_part.Goals as goal

pub returns : goal.returns
returns c =
    record {
      closable_2 = (record { ready = c.requires.closable.ready; next = c.next.ensures.inside }, c.closing_part-size.ensures.upper_bound);
      next_value = (c.next.ensures.before, refl);
      parts = λ xs said C. closed-next C c.next.ensures.before (c.closing_part-size.ensures.wrote _ C.stands);
    }
