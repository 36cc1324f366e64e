-- The first bytes of an input and its parity give the output of the whole; each is below 256, as the slice has it.
use Rattle.std.proofs.Common.{arith}
use Rattle.digits.proofs.Due.{wrote_as}
use Rattle.operation_file.proofs.Files.{converted-kept}
use Rattle.operation_file.proofs.convert_kept.Goals as goal

pub returns : goal.returns
returns c =
    let e = c.convert_file.ensures in
    record { upper_bound = e.1; by_index = λ xs H. wrote_as e.0 (converted-kept H c.requires.row_len.0 (λ i. omega (arith, c.type_inv.row i))) }
