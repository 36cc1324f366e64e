-- The entry is the sheet's, by the number of its budget.
use Rattle.bounded_check.proofs.Sheet.{header_is, number_in}
use Rattle.bounded_check.proofs.RuledSheet.entry.Goals as goal

pub entry-requires : goal.entry-requires
entry-requires c =
    let S = c.args.self.ruled in
    record { least_words_in_bounds = header_is S; le_index = number_in S _ c.requires.0 c.requires.1 }
