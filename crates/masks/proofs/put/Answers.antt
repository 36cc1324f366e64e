-- One bit more in one of the two words.
use Rattle.std.proofs.Common.{◌∙◌, ◌-◌, arith, one-mul, shl_exact}
use Rattle.masks.proofs.Masks.{put_first, put_second}
use Rattle.masks.proofs.put.Goals as goal

pub returns-then-block-le64 : goal.returns-then-block-le64
returns-then-block-le64 c =
    let p = c.requires in
    put_first _ _ _ p.0 p.1 p.2 c.if-block-le64.true (shl_exact 1 (c.args.block - 1) 64 (omega arith) (omega arith) ∙ one-mul _)

pub returns-else-block-le64 : goal.returns-else-block-le64
returns-else-block-le64 c =
    let p = c.requires in
    put_second _ _ _ p.0 p.1 p.2 c.if-block-le64.false (shl_exact 1 (c.args.block - 65) 64 (omega arith) (omega arith) ∙ one-mul _)
