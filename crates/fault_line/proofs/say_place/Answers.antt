-- The line, the column, the colon.
use Rattle.std.proofs.Common.{arith}
use Rattle.digits.proofs.Due.{wrote_then}
use Rattle.text_form.specs.Said.{line_name, column_name, place_text}
use Rattle.fault_line.proofs.Said.{named-room, place-length}
use Rattle.fault_line.proofs.say_place.Goals as goal

pub put_named-p-requires : goal.put_named-p-requires
put_named-p-requires c = omega (arith, named-room line_name c.args.line c.requires.0)

pub put_named-q-requires : goal.put_named-q-requires
put_named-q-requires c =
    omega (
      arith,
      c.put_named-p.ensures.is-end,
      c.put_named-p.auto.text,
      named-room line_name c.args.line c.requires.0,
      named-room column_name c.args.column c.requires.1,
    )

pub put_bytes-requires : goal.put_bytes-requires
put_bytes-requires c =
    omega (
      arith,
      c.put_named-p.ensures.is-end,
      c.put_named-p.auto.text,
      c.put_named-q.ensures.is-end,
      c.put_named-q.auto.text,
      named-room line_name c.args.line c.requires.0,
      named-room column_name c.args.column c.requires.1,
    )

pub returns : goal.returns
unfolding place_text
returns c =
    let W = wrote_then c.put_named-p.ensures (wrote_then c.put_named-q.ensures c.put_bytes.ensures) in
    (W, omega (arith, W.is-end, place-length c.args.line c.args.column c.requires.0 c.requires.1))
