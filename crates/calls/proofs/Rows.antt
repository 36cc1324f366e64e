-- THE STARRED EXAMPLES and the refusals: every row of the two lists comes out as it says, by computing the definitions.
-- Rests on specs Examples and Refusals.
use mathlib.Core.Path.{◌≡◌, refl}
use mathlib.Core.Bool.{true, false}
use mathlib.Core.List.{List, [], ◌∷◌, ◌++◌, map}
use Prim.Native.Nat.{ℕ}
use lib.ListN.{replicate}
use Rattle.base.specs.Cells.{cell_count}
use Rattle.base.specs.Lists.{any, all, keep, each, chosen, is_none, from, member, distinct, equal, rising, last_of}
use Rattle.base.specs.Copy.{same, before, is_in, number_from}
use Rattle.base.specs.Checks.{refused, over, numbers_of, numbers_before, lent_after, outside}
use Rattle.theory.specs.Completions.{within, completes, largest, smallest, low_of, next_of, fits}
use Rattle.theory.specs.Margins.{margins_in}
use Rattle.theory.specs.Copies.{copy_for, targets, add, join, spread, candidates, start_copies, copies_from, target_number}
use Rattle.theory.specs.Machines.{taken, reply_at, reply, answers, final}
use Rattle.theory.specs.Walks.{start_at, end_at, most_moves, is_exit, has_ended, monitor_take, monitor, bounded_take, bounded_walk}
use Rattle.formats.specs.Words.{follow, unsound}
use Rattle.formats.specs.Versions.{is_second, budgets_at, budget_count, budgets_in, bad_budget, bad_budgets, lowered, bad_handler}
use Rattle.formats.specs.GraphSheet.{header, cost_word, chain, met, successors}
use Rattle.formats.specs.GraphSheet.{short, bad_counts, bad_length, cost_fits, bad_costs, bad_targets, bad_chains, exit_chain}
use Rattle.formats.specs.GraphSheet.{sheet_order, handled_order, count_order}
use Rattle.formats.specs.BoundedSheet.{first_edge, edge_records, copy_words, edge_words, edge_count, heading_words, sheet_words}
use Rattle.formats.specs.BoundedSheet.{heading, entries_in, copy_at, chain_at, targets_at}
use Rattle.formats.specs.Rule11.{too_short, bad_limits, wrong_length, bad_blocks, bad_lows, bad_copy_order, copies_of, not_one_of}
use Rattle.formats.specs.Rule11.{start_count, entry_fits, bad_entries, no_last_entry, unnamed_start}
use Rattle.formats.specs.Rule11.{bad_exit, bad_edge_order, bad_target_words, bounded_order, bounded_refusal, part_order}
use Rattle.formats.specs.File.{word_of, words_of, odd_bytes}
use Rattle.formats.specs.Listing.{digits, decimal, line, heading_line, copy_line, listing_of, refusal_of}
use Rattle.formats.specs.Catalogue.{sheets_up_to, sheets}
use Rattle.formats.specs.Report.{unused_blocks, refused_as, margin_text, figures_line, refused_line, sheet_line, plus, sums, total_line}
use Rattle.formats.specs.Report.{greater, most_of, most, most_line, unused_line, unused_lines, each_sheet, report_of}
use Rattle.calls.specs.SheetGraph.{graph_at, sheet_copies, row_of, rows_of, entry_for, bounded_sheet, read_bounded}
use Rattle.calls.specs.Area.{area_size, marks, byte_of, bytes, filled}
use Rattle.calls.specs.Weigh.{task_area, small_area, nothing_fits, front_order, weigh_order, before_weighing, area_after}
use Rattle.calls.specs.Build.{too_many, small_output, build_order, output_after, build}
use Rattle.calls.specs.Moves.{out_of_shape, bad_walk, move_order, moved, guarded_order, guarded_reply, guarded_move, bounded_move_order, bounded_move}
use Rattle.calls.specs.Starts.{sets_out, enters_at, guarded_start_order, guarded_start, bounded_start_order, bounded_start}
use Rattle.calls.specs.Program.{listing_order, sheet_listing, listing}
use Rattle.calls.specs.Report.{sheet_figures, figures, report}
use Rattle.calls.specs.Cases.{Case, area_with, end_number, sheet_shown, outcome}
use Rattle.formats.specs.Samples.{paper, loop, loop_saying, twice, least, nine, six, three_seven, in_bytes, text, lines}
use Rattle.calls.specs.Examples.{examples}
use Rattle.calls.specs.Refusals.{sparing, dear, exit_chained, refusals}

-- every row comes out as it says
abbrev pub Pinned : List (Case × List ℕ) → Type 0
Pinned rows = map (λ r. outcome r.0) rows ≡ map (λ r. r.1) rows

pub starred : Pinned examples
unfolding examples paper loop twice least in_bytes text lines
    any all keep each chosen is_none from member distinct equal rising last_of same before is_in number_from refused over lent_after outside
    within completes largest low_of fits copy_for targets add join spread candidates start_copies copies_from target_number
    follow unsound is_second budgets_at budget_count budgets_in bad_budget bad_budgets lowered bad_handler header cost_word chain met successors
    short bad_counts bad_length cost_fits bad_costs bad_targets bad_chains exit_chain sheet_order handled_order
    first_edge edge_records copy_words edge_words edge_count heading_words sheet_words
    heading entries_in copy_at chain_at targets_at
    too_short bad_limits wrong_length bad_blocks bad_lows bad_copy_order copies_of not_one_of start_count entry_fits bad_entries no_last_entry unnamed_start
    bad_exit bad_edge_order bad_target_words bounded_order bounded_refusal
    word_of words_of odd_bytes digits decimal line heading_line copy_line listing_of refusal_of
    graph_at sheet_copies row_of rows_of entry_for bounded_sheet cell_count area_size task_area
    small_area nothing_fits front_order weigh_order too_many small_output build_order build listing_order sheet_listing listing sheet_shown outcome
starred = refl

pub pinned : Pinned refusals
unfolding refusals paper nine six loop loop_saying three_seven least sparing dear exit_chained area_with in_bytes text lines
    any all keep each chosen is_none from member distinct equal rising last_of same before is_in number_from refused over lent_after outside
    within completes largest smallest low_of next_of fits copy_for targets add join spread candidates start_copies copies_from target_number margins_in
    taken reply_at reply answers final start_at end_at most_moves is_exit has_ended monitor_take monitor bounded_take bounded_walk
    follow unsound is_second budgets_at budget_count budgets_in bad_budget bad_budgets lowered bad_handler header cost_word chain met successors
    short bad_counts bad_length cost_fits bad_costs bad_targets bad_chains exit_chain sheet_order handled_order
    first_edge edge_records copy_words edge_words edge_count heading_words sheet_words
    heading entries_in copy_at chain_at targets_at
    too_short bad_limits wrong_length bad_blocks bad_lows bad_copy_order copies_of not_one_of start_count entry_fits bad_entries no_last_entry unnamed_start
    bad_exit bad_edge_order bad_target_words bounded_order bounded_refusal
    word_of words_of odd_bytes digits decimal line heading_line copy_line listing_of refusal_of
    graph_at sheet_copies row_of rows_of entry_for bounded_sheet read_bounded marks byte_of bytes cell_count area_size filled task_area
    small_area nothing_fits front_order weigh_order numbers_of numbers_before before_weighing area_after too_many small_output build_order output_after build
    out_of_shape bad_walk move_order moved guarded_order guarded_reply guarded_move bounded_move_order bounded_move sets_out enters_at guarded_start_order guarded_start bounded_start_order bounded_start listing_order sheet_listing listing
    sheets_up_to sheets unused_blocks refused_as margin_text figures_line refused_line sheet_line plus sums total_line
    greater most_of most most_line unused_line unused_lines each_sheet report_of
    sheet_figures figures report end_number sheet_shown outcome
pinned = refl

-- each order's numbers, as documents 01 and 02 list them; no sheet small enough to compute passes the limits of 10, so its place and its limits
-- stand here
pub orders : numbers_of build_order ∷ numbers_of guarded_order ∷ numbers_of bounded_move_order ∷ numbers_of part_order ∷ numbers_of count_order
    ∷ numbers_of listing_order ∷ numbers_of guarded_start_order ∷ numbers_of bounded_start_order ∷ []
    ≡ (1 ∷ 2 ∷ 3 ∷ 4 ∷ 41 ∷ 43 ∷ 5 ∷ 6 ∷ 7 ∷ 8 ∷ 21 ∷ 9 ∷ 10 ∷ 22 ∷ [])
    ∷ (1 ∷ 2 ∷ 3 ∷ 4 ∷ 41 ∷ 43 ∷ 5 ∷ 6 ∷ 7 ∷ 8 ∷ 21 ∷ 9 ∷ 33 ∷ 32 ∷ 31 ∷ [])
    ∷ (replicate 15 11 ++ (33 ∷ 32 ∷ 31 ∷ []))
    ∷ (replicate 15 11 ++ (33 ∷ []))
    ∷ (1 ∷ 2 ∷ 3 ∷ 4 ∷ 41 ∷ 5 ∷ 6 ∷ 7 ∷ 8 ∷ 33 ∷ [])
    ∷ (1 ∷ 2 ∷ 3 ∷ 4 ∷ 41 ∷ 5 ∷ 6 ∷ 7 ∷ 8 ∷ 9 ∷ 10 ∷ [])
    ∷ (1 ∷ 2 ∷ 3 ∷ 4 ∷ 41 ∷ 43 ∷ 5 ∷ 6 ∷ 7 ∷ 8 ∷ 21 ∷ 9 ∷ 33 ∷ [])
    ∷ (replicate 15 11 ++ (33 ∷ []))
    ∷ []
unfolding over numbers_of sheet_order handled_order bounded_order front_order weigh_order build_order move_order guarded_order bounded_move_order
    part_order count_order listing_order guarded_start_order bounded_start_order
orders = refl

-- "The work area keeps its content under each number checked before 9": in both orders the same
pub before-9 : numbers_before 9 (numbers_of build_order) ∷ numbers_before 9 (numbers_of guarded_order) ∷ numbers_before 9 (numbers_of weigh_order) ∷ []
    ≡ replicate 3 (1 ∷ 2 ∷ 3 ∷ 4 ∷ 41 ∷ 43 ∷ 5 ∷ 6 ∷ 7 ∷ 8 ∷ 21 ∷ [])
unfolding over numbers_of numbers_before handled_order front_order weigh_order build_order move_order guarded_order
before-9 = refl

pub largest-sheets : map (λ (p : ℕ × ℕ). too_many p.0 p.1)
    ((4096, 8192) ∷ (4097, 8192) ∷ (4096, 8193) ∷ []) ≡ false ∷ true ∷ true ∷ []
unfolding too_many
largest-sheets = refl
