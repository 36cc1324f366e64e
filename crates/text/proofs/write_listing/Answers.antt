-- The heading, then the copies' lines.
use Rattle.std.proofs.Common.{sym, arith}
use Rattle.formats.proofs.Budgets.{bounded-records}
use Rattle.formats.proofs.RuleRead.{clauses, read-ruled}
use Rattle.digits.proofs.Due.{wrote_as, wrote_then}
use Rattle.text.proofs.Kept.{readable}
use Rattle.text.proofs.Lines.{listing-is}
use Rattle.text.proofs.Room.{listing-fits}
use Rattle.text.proofs.write_listing.Goals as goal

pub read_heading-heading-requires : goal.read_heading-heading-requires
read_heading-heading-requires c = (clauses _ c.requires.sheet_value).long

pub budgets_part-requires : goal.budgets_part-requires
budgets_part-requires c =
    let C = clauses _ c.requires.sheet_value in
    (C.long, omega (arith, bounded-records c.args.sheet.now, C.there))

pub write_heading-end-requires : goal.write_heading-end-requires
write_heading-end-requires c = omega (arith, listing-fits _ c.requires.sheet_value c.read_heading-heading.ensures.largest_value c.budgets_part.ensures, c.requires.listing_room_in_bounds)

pub write_copies-requires : goal.write_copies-requires
write_copies-requires c =
    let q = c.read_heading-heading.ensures.largest_value in
    let ok = c.requires.sheet_value in
    record { readable = readable _ _ (read-ruled _ ok q); edges_in_bounds = omega (arith, c.write_heading-end.ensures.is-end, c.write_heading-end.auto.text, listing-fits _ ok q c.budgets_part.ensures) }

pub returns : goal.returns
returns c =
    let q = c.read_heading-heading.ensures.largest_value in
    let r = c.budgets_part.ensures in
    let fits = listing-fits _ c.requires.sheet_value q r in (
      wrote_as (wrote_then c.write_heading-end.ensures c.write_copies.ensures) (sym (listing-is _ q r)),
      omega (arith, c.write_copies.ensures.is-end, c.write_heading-end.ensures.is-end, c.write_copies.auto.text, c.write_heading-end.auto.text, fits),
    )
