-- The heading's names and numbers, the budgets, then the newline.
use Rattle.std.proofs.Common.{arith}
use Rattle.digits.proofs.Due.{wrote_then}
use Rattle.heading_line.specs.Heading.{heading_text}
use Rattle.heading_line.proofs.Heading.{heading-length}
use Rattle.heading_line.proofs.write_heading.Goals as goal

pub put_named-behind_copies-requires : goal.put_named-behind_copies-requires
put_named-behind_copies-requires c = omega (arith, heading-length)

pub put_named-behind_edges-requires : goal.put_named-behind_edges-requires
put_named-behind_edges-requires c = omega (arith, heading-length)

pub put_bytes-behind_name-requires : goal.put_bytes-behind_name-requires
put_bytes-behind_name-requires c = omega (arith, heading-length)

pub put_numbers-behind_budgets-requires : goal.put_numbers-behind_budgets-requires
put_numbers-behind_budgets-requires c = omega (arith, heading-length)

pub put_byte-requires : goal.put_byte-requires
put_byte-requires c = omega (arith, heading-length)

pub returns : goal.returns
unfolding heading_text
returns c =
    let last = wrote_then c.put_bytes-behind_name.ensures (wrote_then c.put_numbers-behind_budgets.ensures c.put_byte.ensures) in
    wrote_then c.put_named-behind_copies.ensures (wrote_then c.put_named-behind_edges.ensures last)
