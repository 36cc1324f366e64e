-- The place, what stood there, the newline.
use Rattle.std.proofs.Common.{arith}
use Rattle.digits.proofs.Due.{wrote_then}
use Rattle.text_form.specs.Said.{said_text}
use Rattle.fault_line.proofs.Said.{what-length}
use Rattle.fault_line.proofs.say.Goals as goal

pub put_byte-requires : goal.put_byte-requires
put_byte-requires c =
    omega (
      arith,
      c.requires.3,
      c.say_place-p.ensures.1,
      c.say_place-p.auto.said,
      c.say_what-q.ensures.is-end,
      c.say_what-q.auto.said,
      what-length c.args.fault c.args.found c.requires.2,
    )

pub returns : goal.returns
unfolding said_text
returns c = (
  wrote_then c.say_place-p.ensures.0 (wrote_then c.say_what-q.ensures c.put_byte.ensures),
  omega (
    arith,
    c.requires.3,
    c.say_place-p.ensures.1,
    c.say_place-p.auto.said,
    c.say_what-q.ensures.is-end,
    c.say_what-q.auto.said,
    what-length c.args.fault c.args.found c.requires.2,
    c.put_byte.ensures.is-end,
    c.put_byte.auto.text,
  ),
)
