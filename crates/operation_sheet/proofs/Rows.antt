-- Every row comes out as it says, by computing the definitions; the numbers of the converter in their order.
-- Rests on specs Operations and Refusals.
use mathlib.Core.Path.{◌≡◌, refl}
use mathlib.Core.List.{[], ◌∷◌, map}
use Rattle.base.specs.Lists.{any, all, each, from, member, distinct, rising, sum}
use Rattle.base.specs.Checks.{refused, over, outside, lent_after, numbers_of}
use Rattle.formats.specs.Words.{follow, unsound}
use Rattle.formats.specs.Versions.{is_second, budgets_at, budget_count, budgets_in, bad_budget, bad_budgets}
use Rattle.formats.specs.GraphSheet.{header, cost_word, chain, met, short, bad_counts, cost_fits, bad_costs, bad_targets, bad_chains, exit_chain}
use Rattle.operation_sheet.specs.Operations.{cycles_of, operations_of, cycle_sum, wrong_size, many_records, large_operation, bad_records}
use Rattle.operation_sheet.specs.Operations.{bad_operations, graph_words, converted_sheet, operation_order, small_row, convert_order, convert}
use Rattle.operation_sheet.specs.Operations.{most_cycles}
use Rattle.operation_sheet.specs.Refusals.{behind, two, outcome, wrote, kept, cases}

pub pinned : map (λ r. outcome r.0) cases ≡ map (λ r. r.1) cases
unfolding cases behind two outcome wrote kept
    any all each from member distinct rising sum refused over outside lent_after follow unsound
    is_second budgets_at budget_count budgets_in bad_budget bad_budgets
    header cost_word chain met short bad_counts cost_fits bad_costs bad_targets bad_chains exit_chain
    cycles_of operations_of cycle_sum wrong_size many_records large_operation bad_records bad_operations
    graph_words converted_sheet operation_order small_row convert_order convert
pinned = refl

-- "at most 4,096" records of at most 8 cycles
pub most-cycles : most_cycles ≡ 32768
most-cycles = refl

pub convert-numbers : numbers_of convert_order ≡ 1 ∷ 2 ∷ 3 ∷ 4 ∷ 41 ∷ 6 ∷ 7 ∷ 8 ∷ 42 ∷ 22 ∷ []
unfolding numbers_of convert_order operation_order over
convert-numbers = refl
