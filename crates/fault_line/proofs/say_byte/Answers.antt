-- The word and the number, then the rest.
use Rattle.std.proofs.Common.{arith, length-append}
use Rattle.digits.specs.Spaced.{spaced}
use Rattle.digits.proofs.Due.{wrote_then}
use Rattle.digits.proofs.Room.{spaced-7}
use Rattle.text_form.specs.Said.{byte_name}
use Rattle.fault_line.proofs.say_byte.Goals as goal

pub put_named-p-requires : goal.put_named-p-requires
put_named-p-requires c = omega (arith, c.requires.1, length-append byte_name (spaced c.args.b), spaced-7 c.args.b c.requires.0)

pub put_bytes-requires : goal.put_bytes-requires
put_bytes-requires c = omega (arith, c.requires.1, c.put_named-p.ensures.is-end, c.put_named-p.auto.text, length-append byte_name (spaced c.args.b), spaced-7 c.args.b c.requires.0)

pub returns : goal.returns
returns c = wrote_then c.put_named-p.ensures c.put_bytes.ensures
