-- A cell lies inside.
use Rattle.std.proofs.Common.{◌≡◌, ℕ, ◌+◌, ◌-◌, ◌*◌, add-one, arith}
use Rattle.base.specs.Cells.{cell_of}
use Rattle.base.proofs.Cells.{cell-inside}
use Rattle.cells.proofs.layout.Layout.cell.Goals as goal

cell-code : (b v c : ℕ) → (v - 1) * (b + 1) + c ≡ cell_of b v c
unfolding cell_of
cell-code b v c = rw add-one

pub returns-clause-inside : goal.returns-clause-inside
returns-clause-inside c =
    let p = c.requires in
    let z = c.args in
    omega (arith, cell-code z.self.budget z.block z.number, cell-inside z.self.budget z.self.blocks z.block z.number p.0 p.1 p.2)
