-- Every row comes out as it says, by computing the definitions.
-- Rests on specs Program and Refusals.
use mathlib.Core.Path.{◌≡◌, refl}
use mathlib.Core.List.{map}
use Rattle.base.specs.Lists.{any, all, each, from, member, distinct, rising, sum}
use Rattle.base.specs.Checks.{refused, outside}
use Rattle.formats.specs.Words.{follow, unsound}
use Rattle.formats.specs.Versions.{is_second, budgets_at, budget_count, budgets_in, bad_budget, bad_budgets}
use Rattle.formats.specs.GraphSheet.{header, cost_word, chain, met, short, bad_counts, cost_fits, bad_costs, bad_targets, bad_chains, exit_chain}
use Rattle.formats.specs.File.{word_of, words_of, bytes_of, odd_bytes}
use Rattle.formats.specs.Listing.{digits, decimal, line, refusal_of}
use Rattle.formats.specs.Samples.{in_bytes, text, lines}
use Rattle.operation_sheet.specs.Operations.{cycles_of, operations_of, cycle_sum, wrong_size, many_records, large_operation, bad_records}
use Rattle.operation_sheet.specs.Operations.{bad_operations, graph_words, converted_sheet, operation_order}
use Rattle.operation_file.specs.Program.{sheet_converted, converted_from, converted}
use Rattle.operation_file.specs.Refusals.{sheet, cases}

pub pinned : map (λ r. converted r.0) cases ≡ map (λ r. r.1) cases
unfolding cases sheet in_bytes text lines
    any all each from member distinct rising sum refused outside follow unsound
    is_second budgets_at budget_count budgets_in bad_budget bad_budgets
    header cost_word chain met short bad_counts cost_fits bad_costs bad_targets bad_chains exit_chain
    word_of words_of bytes_of odd_bytes digits decimal line refusal_of
    cycles_of operations_of cycle_sum wrong_size many_records large_operation bad_records bad_operations graph_words converted_sheet operation_order
    sheet_converted converted_from converted
pinned = refl
