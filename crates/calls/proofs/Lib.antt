-- an accepted graph sheet has a well-formed graph: well-formed, setting_with
pub mod SheetLaws
-- a setting's rows, behind any header: lays-out, rows_fit
pub mod SettingRows
-- the sheet of an accepted build lays its copies out and keeps rule 11: sheet-lays-out, keeps-rule, words-fit-16
pub mod Built
-- demand 2, from what an accepted build says of its sheet: demand2
pub mod Construction
-- what an answer of weighing says, and which are checked before 9: weighs-e, weighs-late, spared
pub mod Weigh
-- the two calls case by case: sheet-refuses, shape-refuses, machine-replies, guarded-as, bounded-as
pub mod Moves
-- demands 2 and 3 from the build's answer 0: keeps-demand2, keeps-demand3
pub mod Demand
-- the work area's cells, the area while it is filled, and the output row after a call: cell-filled, set-stands, filling-filled, output-words
pub mod Area
-- what 9 and the work area say of a sheet's completions: nine-is-exact, build-fills
pub mod Filled
-- calls on another form of a walk keep demand 3 too: held-demand3
pub mod Forms
-- the starred examples and the refusals, row by row: starred, pinned
pub mod Rows
-- what a report says of a sheet: sheet-accepted, sheet-refused, listed, unused-exactly
pub mod Unused
-- the margins of its copies: margin-count, sheet-margins
pub mod Margins
-- and the greatest: report-greatest
pub mod Greatest
-- no copy but the start's is reached from itself: falls-by, few-moves, no_loop
pub mod Unrolled
