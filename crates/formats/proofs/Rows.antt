-- Every row of the formats' refusals comes out as it says, by computing the definitions.
-- Rests on specs Refusals.
use mathlib.Core.Path.{◌≡◌, refl}
use mathlib.Core.List.{map}
use Rattle.base.specs.Lists.{any, all, keep, each, from, member, distinct, equal, rising, last_of}
use Rattle.base.specs.Copy.{before}
use Rattle.base.specs.Checks.{refused, over, outside}
use Rattle.formats.specs.Words.{follow, chain_length, unsound}
use Rattle.formats.specs.Versions.{is_second, budgets_at, budget_count, budgets_in, bad_budget, bad_budgets, bad_handler}
use Rattle.formats.specs.GraphSheet.{header, cost_word, chain, met, successor_count}
use Rattle.formats.specs.GraphSheet.{short, bad_counts, bad_length, cost_fits, bad_costs, bad_targets, bad_chains, exit_chain}
use Rattle.formats.specs.GraphSheet.{sheet_order, sheet_refusal, handled_order, handled_refusal, count_order, count_successors}
use Rattle.formats.specs.BoundedSheet.{heading, entries_in, copy_at, chain_at, targets_at, edge_part}
use Rattle.formats.specs.Rule11.{too_short, bad_limits, wrong_length, bad_blocks, bad_lows, bad_copy_order, copies_of, not_one_of}
use Rattle.formats.specs.Rule11.{start_count, entry_fits, bad_entries, no_last_entry, unnamed_start}
use Rattle.formats.specs.Rule11.{bad_exit, bad_edge_order, bad_target_words, bounded_order, bounded_refusal, part_order, hand_out}
use Rattle.formats.specs.File.{word_of, words_of}
use Rattle.formats.specs.Listing.{digits, decimal, line, heading_line, copy_line, listing_of}
use Rattle.formats.specs.Catalogue.{sheets_up_to, sheets}
use Rattle.formats.specs.Report.{unused_blocks, refused_as, margin_text, figures_line, refused_line, sheet_line, plus, sums, total_line}
use Rattle.formats.specs.Report.{greater, most_of, most, most_line, unused_line, unused_lines, each_sheet, report_of}
use Rattle.formats.specs.Samples.{paper, loop_saying, least, nine, three_seven, in_bytes, text, lines}
use Rattle.formats.specs.Refusals.{sheet_shown, outcome, refusals}

pub pinned : map (λ r. outcome r.0) refusals ≡ map (λ r. r.1) refusals
unfolding refusals paper loop_saying least nine three_seven in_bytes text lines
    any all keep each from member distinct equal rising last_of before refused over outside
    follow chain_length unsound is_second budgets_at budget_count budgets_in bad_budget bad_budgets bad_handler header cost_word chain met successor_count
    short bad_counts bad_length cost_fits bad_costs bad_targets bad_chains exit_chain sheet_order sheet_refusal handled_order handled_refusal
    count_order count_successors
    heading entries_in copy_at chain_at targets_at edge_part
    too_short bad_limits wrong_length bad_blocks bad_lows bad_copy_order copies_of not_one_of start_count entry_fits bad_entries no_last_entry unnamed_start
    bad_exit bad_edge_order bad_target_words bounded_order bounded_refusal part_order hand_out
    word_of words_of digits decimal line heading_line copy_line listing_of
    sheets_up_to sheets unused_blocks refused_as margin_text figures_line refused_line sheet_line plus sums total_line
    greater most_of most most_line unused_line unused_lines each_sheet report_of
    sheet_shown outcome
pinned = refl
