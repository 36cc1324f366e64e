-- The bits of both words in both masks.
use Rattle.std.proofs.Common.{◌+◌, ◌*◌}
use Rattle.masks.proofs.Masks.{meets}
use Rattle.masks.proofs.meet.Goals as goal

pub returns : goal.returns
returns c =
    let z = c.args in
    meets z.row.now z.mask z.others.now z.other (c.type_inv.row (2 * z.mask)).fits
    (c.type_inv.others (2 * z.other)).fits (c.type_inv.row (2 * z.mask + 1)).fits
    (c.type_inv.others (2 * z.other + 1)).fits
