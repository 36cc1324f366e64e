-- The budgets are a part of the sheet, and each is put, lowered.
use Rattle.std.proofs.Common.{ap, arith, length}
use Rattle.formats.proofs.Budgets.{budgets-there}
use Rattle.lowered.proofs.put_lowered.Goals as goal

pub put_less-requires : goal.put_less-requires
put_less-requires c = omega (arith, c.requires.words_in_bounds, ap length c.budgets_part.ensures, budgets-there _ c.requires.least_words_in_bounds.1)
