-- The word and the number, then the newline.
use Rattle.std.proofs.Common.{sym, arith}
use Rattle.digits.proofs.Due.{wrote_as, wrote_then}
use Rattle.text.proofs.Lines.{refusal_is, refusal-length}
use Rattle.text.proofs.Room.{refusal-fits}
use Rattle.text.proofs.write_refusal.Goals as goal

pub put_named-end-requires : goal.put_named-end-requires
put_named-end-requires c =
    let n = c.args.number in
    omega (arith, refusal-length n, refusal-fits n (omega arith))

pub put_byte-requires : goal.put_byte-requires
put_byte-requires c =
    let n = c.args.number in
    omega (arith, c.put_named-end.ensures.is-end, c.put_named-end.auto.text, refusal-length n, refusal-fits n (omega arith))

pub returns : goal.returns
returns c =
    let n = c.args.number in
    let W = wrote_as (wrote_then c.put_named-end.ensures c.put_byte.ensures) (sym (refusal_is n)) in
    (W, omega (arith, W.is-end, c.put_named-end.auto.text, c.put_byte.auto.text, refusal-fits n (omega arith)))
