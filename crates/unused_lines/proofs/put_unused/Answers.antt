-- The word and the place, the block, then the newline.
use Rattle.std.proofs.Common.{arith}
use Rattle.digits.proofs.Due.{wrote_as, wrote_then}
use Rattle.unused_lines.proofs.Line.{unused-is, unused-length}
use Rattle.unused_lines.proofs.put_unused.Goals as goal

pub put_named-named-requires : goal.put_named-named-requires
put_named-named-requires c = let a = c.args in omega (arith, unused-length a.place a.block)

pub put_number-end-requires : goal.put_number-end-requires
put_number-end-requires c =
    let a = c.args in
    omega (arith, c.put_named-named.ensures.is-end, c.put_named-named.auto.text, unused-length a.place a.block)

pub put_byte-requires : goal.put_byte-requires
put_byte-requires c =
    let a = c.args in
    omega (
      arith,
      c.put_named-named.ensures.is-end,
      c.put_named-named.auto.text,
      c.put_number-end.ensures.is-end,
      c.put_number-end.auto.text,
      unused-length a.place a.block,
    )

pub returns : goal.returns
returns c =
    let a = c.args in
    let last = wrote_then c.put_number-end.ensures c.put_byte.ensures in
    wrote_as (wrote_then c.put_named-named.ensures last) (unused-is a.place a.block)
