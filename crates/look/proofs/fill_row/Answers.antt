-- Each turn fills one entry more of the row.
use Rattle.std.proofs.Common.{◌≡◌, sym, ap, ◌∙◌, arith, add-one, rules}
use Rattle.calls.proofs.Area.{area-cell}
use Rattle.look.specs.Rows.{latest}
use Rattle.look.proofs.Rows.{in_row, row-start, row_on, row-end}
use Rattle.look.proofs.fill_row.Goals as goal
use Rattle.look.proofs.fill_row.Goals.{then-is_set, else-is_set}

pub loop-cycles-init : goal.loop-cycles-init
loop-cycles-init c = row-start _

pub is_set-requires-clause-has_cell : goal.is_set-requires-clause-has_cell
is_set-requires-clause-has_cell c = area-cell _ _ _ _ c.args.area.now c.requires.inside.0 (omega arith) (omega arith) c.requires.room.0

pub put_entry-requires-clause-inside : goal.put_entry-requires-clause-inside
put_entry-requires-clause-inside c =
    in_row _ _ _ _ c.requires.inside.0 (omega arith) (omega (arith, c.requires.room.1, c.loop-cycles.invariant.size))

pub loop-cycles-preserved : goal.loop-cycles-preserved
unfolding latest
loop-cycles-preserved c =
    let l = c.loop-cycles in
    let x : c.if-is_set.last ≡ latest l.last l.cycles c.is_set.result = elim c.if-is_set.branch [
      | then-is_set w ↦ w.last-is ∙ add-one _ ∙ ap (latest l.last l.cycles) (sym w.if-is_set.true)
      | else-is_set w ↦ w.last-is ∙ ap (latest l.last l.cycles) (sym w.if-is_set.false)
    ] in
    row_on l.invariant c.requires.inside.0 (omega arith) c.requires.room.1 c.is_set.ensures x c.put_entry.ensures _ (add-one _)

pub returns : goal.returns
returns c = row-end c.loop-cycles.invariant (omega arith)
