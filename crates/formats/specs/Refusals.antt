-- The formats' own refusals, pinned by rows of one list: each number, each limit at and one past it, neighbours in the order with both faults.
-- Rests on base Lists, GraphSheet, Rule11, File, Listing, Catalogue, Report, Samples.
use Rattle.std.specs.Prelude.{List, [], ◌∷◌, ◌++◌, ℕ, suc, length, replicate, set}
use Rattle.std.proofs.Math.Option.{Option, some, none}
use Rattle.base.specs.Lists.{each}
use Rattle.formats.specs.GraphSheet.{sheet_refusal, handled_refusal, count_successors}
use Rattle.formats.specs.Rule11.{bounded_refusal, hand_out}
use Rattle.formats.specs.File.{words_of}
use Rattle.formats.specs.Listing.{decimal, listing_of}
use Rattle.formats.specs.Catalogue.{sheets_up_to, sheets}
use Rattle.formats.specs.Report.{Figures, unused_blocks, refused_as, report_of}
use Rattle.formats.specs.Samples.{paper, loop_saying, loop_with, nine, three_seven, in_bytes, lines}

-- one input of one call
pub data Case : Type 0 where
  -- the conditions 1 to 8 on a graph sheet
  graph_of : List ℕ → Case
  -- the same and 43, with the handler's cost
  handled_of : List ℕ → ℕ → Case
  -- the number of successors of a block
  count_of : List ℕ → ℕ → Case
  -- rule 11 on a bounded sheet
  bounded_of : List ℕ → Case
  -- the edge words handed out for a copy
  part_of : List ℕ → ℕ → Case
  -- a file's bytes as words
  file_of : List ℕ → Case
  -- a number in decimal
  decimal_of : ℕ → Case
  -- a bounded sheet's listing
  text_of : List ℕ → Case
  -- the first sheets of a catalogue, each as one more than its length and its words, 0 for a length beyond the words left
  sheets_of : ℕ → List ℕ → Case
  -- the number of a catalogue's sheets
  sheet_count : List ℕ → Case
  -- the blocks 1 to n of which a bounded sheet has no copy
  unused_of : ℕ → List ℕ → Case
  -- the report on sheets with these figures
  report_from : List Figures → Case

unfoldable pub sheet_shown : Option (List ℕ) → List ℕ
sheet_shown none = 0 ∷ []
sheet_shown (some w) = suc (length w) ∷ w

-- what the definitions make of it, as a row of numbers
unfoldable pub outcome : Case → List ℕ
outcome (graph_of w) = sheet_refusal w ∷ []
outcome (handled_of w h) = handled_refusal w h ∷ []
outcome (count_of w v) = let r = count_successors w v in r.answer ∷ r.count ∷ []
outcome (bounded_of t) = bounded_refusal t ∷ []
outcome (part_of t i) = let r = hand_out t i in r.answer ∷ r.words
outcome (file_of bs) = words_of bs
outcome (decimal_of n) = decimal n
outcome (text_of t) = listing_of t
outcome (sheets_of k ws) = each sheet_shown (sheets_up_to k ws)
outcome (sheet_count ws) = length (sheets ws) ∷ []
outcome (unused_of n t) = unused_blocks n t
outcome (report_from fs) = report_of fs

-- the figures of an accepted sheet
abbrev figured : ℕ → ℕ → ℕ → List (Option ℕ) → List ℕ → Figures
figured n c f ms vs = record { answer = 0; blocks = n; copies = c; edges = f; margins = ms; unused = vs }

unfoldable pub refusals : List (Case × List ℕ)
refusals =
    -- 1: fewer than 3 words, also where N and E are outside their limits
    (graph_of [], 1 ∷ [])
    ∷ (graph_of (129 ∷ []), 1 ∷ [])
    ∷ (graph_of (2 ∷ 513 ∷ []), 1 ∷ [])
    -- 2: N at and past its limits (a row at a limit goes on to 3), E at and past its limits, also where the length is wrong
    ∷ (graph_of (1 ∷ 1 ∷ 0 ∷ []), 2 ∷ [])
    ∷ (graph_of (2 ∷ 1 ∷ 0 ∷ []), 3 ∷ [])
    ∷ (graph_of (128 ∷ 1 ∷ 0 ∷ []), 3 ∷ [])
    ∷ (graph_of (129 ∷ 1 ∷ 0 ∷ []), 2 ∷ [])
    ∷ (graph_of (2 ∷ 0 ∷ 0 ∷ []), 2 ∷ [])
    ∷ (graph_of (2 ∷ 512 ∷ 0 ∷ []), 3 ∷ [])
    ∷ (graph_of (2 ∷ 513 ∷ 0 ∷ []), 2 ∷ [])
    -- 3: one word less, one word more, also where B is above 500
    ∷ (graph_of (2 ∷ 1 ∷ 0 ∷ 0 ∷ 1 ∷ 0 ∷ 0 ∷ 2 ∷ []), 3 ∷ [])
    ∷ (graph_of (2 ∷ 1 ∷ 0 ∷ 0 ∷ 1 ∷ 0 ∷ 0 ∷ 2 ∷ 0 ∷ 0 ∷ []), 3 ∷ [])
    ∷ (graph_of (2 ∷ 1 ∷ 501 ∷ 0 ∷ 1 ∷ 0 ∷ 0 ∷ 2 ∷ []), 3 ∷ [])
    -- 4: B at and past its limit, also where block 1 has a cost
    ∷ (graph_of (2 ∷ 1 ∷ 500 ∷ 0 ∷ 1 ∷ 0 ∷ 0 ∷ 2 ∷ 0 ∷ []), 0 ∷ [])
    ∷ (graph_of (2 ∷ 1 ∷ 501 ∷ 0 ∷ 1 ∷ 0 ∷ 0 ∷ 2 ∷ 0 ∷ []), 4 ∷ [])
    ∷ (graph_of (2 ∷ 1 ∷ 501 ∷ 1 ∷ 1 ∷ 0 ∷ 0 ∷ 2 ∷ 0 ∷ []), 4 ∷ [])
    -- 5: block 1 with a cost, block 2 with one, block 3 without and with the largest, also where a target is 1
    ∷ (graph_of (2 ∷ 1 ∷ 0 ∷ 1 ∷ 1 ∷ 0 ∷ 0 ∷ 2 ∷ 0 ∷ []), 5 ∷ [])
    ∷ (graph_of (2 ∷ 1 ∷ 0 ∷ 0 ∷ 1 ∷ 1 ∷ 0 ∷ 2 ∷ 0 ∷ []), 5 ∷ [])
    ∷ (graph_of (3 ∷ 2 ∷ 9 ∷ 0 ∷ 1 ∷ 0 ∷ 0 ∷ 0 ∷ 2 ∷ 3 ∷ 0 ∷ 2 ∷ 0 ∷ []), 5 ∷ [])
    ∷ (graph_of (3 ∷ 2 ∷ 9 ∷ 0 ∷ 1 ∷ 0 ∷ 0 ∷ 65535 ∷ 2 ∷ 3 ∷ 0 ∷ 2 ∷ 0 ∷ []), 0 ∷ [])
    ∷ (graph_of (3 ∷ 2 ∷ 9 ∷ 0 ∷ 1 ∷ 0 ∷ 0 ∷ 0 ∷ 2 ∷ 1 ∷ 0 ∷ 2 ∷ 0 ∷ []), 5 ∷ [])
    -- 6: a target that is 0, 1, N or above N, in a chain or not, also where a chain does not end
    ∷ (graph_of (2 ∷ 1 ∷ 0 ∷ 0 ∷ 1 ∷ 0 ∷ 0 ∷ 0 ∷ 0 ∷ []), 6 ∷ [])
    ∷ (graph_of (2 ∷ 1 ∷ 0 ∷ 0 ∷ 1 ∷ 0 ∷ 0 ∷ 1 ∷ 0 ∷ []), 6 ∷ [])
    ∷ (graph_of (2 ∷ 1 ∷ 0 ∷ 0 ∷ 1 ∷ 0 ∷ 0 ∷ 3 ∷ 0 ∷ []), 6 ∷ [])
    ∷ (graph_of (3 ∷ 2 ∷ 9 ∷ 0 ∷ 1 ∷ 0 ∷ 0 ∷ 1 ∷ 2 ∷ 3 ∷ 0 ∷ 2 ∷ 0 ∷ []), 0 ∷ [])
    ∷ (graph_of (2 ∷ 2 ∷ 0 ∷ 0 ∷ 1 ∷ 0 ∷ 0 ∷ 2 ∷ 0 ∷ 1 ∷ 0 ∷ []), 6 ∷ [])
    ∷ (graph_of (2 ∷ 1 ∷ 0 ∷ 0 ∷ 1 ∷ 0 ∷ 0 ∷ 1 ∷ 1 ∷ []), 6 ∷ [])
    -- 7: an edge number above E as first and as next, an edge whose next is itself, a longer loop, an edge of two blocks, a missed edge
    ∷ (graph_of (2 ∷ 1 ∷ 0 ∷ 0 ∷ 2 ∷ 0 ∷ 0 ∷ 2 ∷ 0 ∷ []), 7 ∷ [])
    ∷ (graph_of (2 ∷ 1 ∷ 0 ∷ 0 ∷ 1 ∷ 0 ∷ 0 ∷ 2 ∷ 2 ∷ []), 7 ∷ [])
    ∷ (graph_of (2 ∷ 1 ∷ 0 ∷ 0 ∷ 1 ∷ 0 ∷ 0 ∷ 2 ∷ 1 ∷ []), 7 ∷ [])
    ∷ (graph_of (2 ∷ 2 ∷ 0 ∷ 0 ∷ 1 ∷ 0 ∷ 0 ∷ 2 ∷ 2 ∷ 2 ∷ 1 ∷ []), 7 ∷ [])
    ∷ (graph_of (3 ∷ 1 ∷ 9 ∷ 0 ∷ 1 ∷ 0 ∷ 0 ∷ 1 ∷ 1 ∷ 2 ∷ 0 ∷ []), 7 ∷ [])
    ∷ (graph_of (2 ∷ 1 ∷ 0 ∷ 0 ∷ 0 ∷ 0 ∷ 0 ∷ 2 ∷ 0 ∷ []), 7 ∷ [])
    ∷ (graph_of (2 ∷ 2 ∷ 0 ∷ 0 ∷ 1 ∷ 0 ∷ 0 ∷ 2 ∷ 0 ∷ 2 ∷ 0 ∷ []), 7 ∷ [])
    -- 7 before 8: an unsound chain of the exit; 8: a sound one
    ∷ (graph_of (2 ∷ 1 ∷ 0 ∷ 0 ∷ 0 ∷ 0 ∷ 1 ∷ 2 ∷ 1 ∷ []), 7 ∷ [])
    ∷ (graph_of (2 ∷ 1 ∷ 0 ∷ 0 ∷ 0 ∷ 0 ∷ 1 ∷ 2 ∷ 0 ∷ []), 8 ∷ [])
    ∷ (graph_of (2 ∷ 1 ∷ 0 ∷ 0 ∷ 1 ∷ 0 ∷ 0 ∷ 2 ∷ 0 ∷ []), 0 ∷ [])
    -- the second version, 1 to 3: a row of 0 alone, 0 and N, N outside, a row that ends before its number of budgets or before its budgets, one
    -- word less and one more
    ∷ (graph_of (0 ∷ []), 1 ∷ [])
    ∷ (graph_of (0 ∷ 3 ∷ []), 1 ∷ [])
    ∷ (graph_of (0 ∷ 1 ∷ 3 ∷ []), 2 ∷ [])
    ∷ (graph_of (0 ∷ 129 ∷ 3 ∷ []), 2 ∷ [])
    ∷ (graph_of (0 ∷ 3 ∷ 0 ∷ []), 2 ∷ [])
    ∷ (graph_of (0 ∷ 3 ∷ 513 ∷ []), 2 ∷ [])
    ∷ (graph_of (0 ∷ 3 ∷ 3 ∷ []), 3 ∷ [])
    ∷ (graph_of (0 ∷ 3 ∷ 3 ∷ 2 ∷ 7 ∷ []), 3 ∷ [])
    ∷ (graph_of (loop_saying 1 (3 ∷ 7 ∷ [])), 3 ∷ [])
    ∷ (graph_of (loop_saying 3 (3 ∷ 7 ∷ [])), 3 ∷ [])
    -- 4: each budget at and past its limit, also where there are too many or they fall
    ∷ (graph_of (loop_with (499 ∷ 500 ∷ [])), 0 ∷ [])
    ∷ (graph_of (loop_with (499 ∷ 501 ∷ [])), 4 ∷ [])
    ∷ (graph_of (loop_with (501 ∷ 7 ∷ [])), 4 ∷ [])
    ∷ (graph_of (loop_with (1 ∷ 2 ∷ 3 ∷ 4 ∷ 501 ∷ [])), 4 ∷ [])
    -- 41: none, five, equal, falling; four; also where block 1 has a cost
    ∷ (graph_of (loop_with []), 41 ∷ [])
    ∷ (graph_of (loop_with (1 ∷ 2 ∷ 3 ∷ 4 ∷ 5 ∷ [])), 41 ∷ [])
    ∷ (graph_of (loop_with (7 ∷ 7 ∷ [])), 41 ∷ [])
    ∷ (graph_of (loop_with (3 ∷ 7 ∷ 6 ∷ [])), 41 ∷ [])
    ∷ (graph_of (loop_with (0 ∷ [])), 0 ∷ [])
    ∷ (graph_of (loop_with (0 ∷ 1 ∷ 2 ∷ 3 ∷ [])), 0 ∷ [])
    ∷ (graph_of (set (loop_with (7 ∷ 7 ∷ [])) 6 1), 41 ∷ [])
    ∷ (graph_of (set (loop_with (6 ∷ 7 ∷ [])) 6 1), 5 ∷ [])
    ∷ (graph_of (set (loop_with (6 ∷ 7 ∷ [])) 12 1), 6 ∷ [])
    -- 43: h at and one past the budget, or the smallest one, the largest word; also below the largest one
    ∷ (handled_of (paper 9) 0, 0 ∷ [])
    ∷ (handled_of (paper 9) 9, 0 ∷ [])
    ∷ (handled_of (paper 9) 10, 43 ∷ [])
    ∷ (handled_of (paper 500) 65535, 43 ∷ [])
    ∷ (handled_of (paper 0) 1, 43 ∷ [])
    ∷ (handled_of (loop_with (3 ∷ 7 ∷ [])) 3, 0 ∷ [])
    ∷ (handled_of (loop_with (3 ∷ 7 ∷ [])) 4, 43 ∷ [])
    ∷ (handled_of (loop_with (0 ∷ 1 ∷ 2 ∷ 3 ∷ [])) 1, 43 ∷ [])
    -- behind 1 to 4 and 41, before 5 to 8, which a sheet that passes 43 still meets
    ∷ (handled_of (2 ∷ []) 1, 1 ∷ [])
    ∷ (handled_of (129 ∷ 1 ∷ 0 ∷ []) 1, 2 ∷ [])
    ∷ (handled_of (2 ∷ 1 ∷ 0 ∷ []) 1, 3 ∷ [])
    ∷ (handled_of (paper 501) 502, 4 ∷ [])
    ∷ (handled_of (loop_with (7 ∷ 7 ∷ [])) 8, 41 ∷ [])
    ∷ (handled_of (loop_with (7 ∷ 3 ∷ [])) 4, 41 ∷ [])
    ∷ (handled_of (loop_with []) 1, 41 ∷ [])
    ∷ (handled_of (set (loop_with (6 ∷ 7 ∷ [])) 6 1) 7, 43 ∷ [])
    ∷ (handled_of (set (loop_with (6 ∷ 7 ∷ [])) 6 1) 6, 5 ∷ [])
    ∷ (handled_of (set (loop_with (6 ∷ 7 ∷ [])) 12 1) 7, 43 ∷ [])
    ∷ (handled_of (set (loop_with (6 ∷ 7 ∷ [])) 12 1) 6, 6 ∷ [])
    -- the number of successors; the sheet's own numbers come before 33
    ∷ (count_of (loop_with (3 ∷ 7 ∷ [])) 3, 0 ∷ 2 ∷ [])
    ∷ (count_of (paper 9) 1, 0 ∷ 1 ∷ [])
    ∷ (count_of (paper 9) 2, 0 ∷ 0 ∷ [])
    ∷ (count_of (paper 9) 3, 0 ∷ 2 ∷ [])
    ∷ (count_of (paper 9) 6, 0 ∷ 2 ∷ [])
    ∷ (count_of (paper 9) 8, 0 ∷ 1 ∷ [])
    ∷ (count_of (paper 9) 0, 33 ∷ 0 ∷ [])
    ∷ (count_of (paper 9) 9, 33 ∷ 0 ∷ [])
    ∷ (count_of (2 ∷ 1 ∷ 0 ∷ 0 ∷ 0 ∷ 0 ∷ 1 ∷ 2 ∷ 0 ∷ []) 0, 8 ∷ 0 ∷ [])
    -- rule 11: a built sheet, then each clause broken alone or first, at and past each limit
    ∷ (bounded_of (2 ∷ 1 ∷ []), 11 ∷ [])
    ∷ (
      bounded_of nine,
      0 ∷ [],
    )
    ∷ (bounded_of (set nine 0 1), 11 ∷ [])
    ∷ (bounded_of (set nine 1 0), 11 ∷ [])
    ∷ (bounded_of (set nine 0 8), 11 ∷ [])
    ∷ (bounded_of (set nine 2 501), 11 ∷ [])
    ∷ (bounded_of (set nine 27 129), 11 ∷ [])
    ∷ (bounded_of (set nine 28 10), 11 ∷ [])
    ∷ (bounded_of (set nine 19 6), 11 ∷ [])
    ∷ (bounded_of (set nine 3 2), 11 ∷ [])
    ∷ (bounded_of (set nine 6 3), 11 ∷ [])
    ∷ (bounded_of (set nine 7 1), 11 ∷ [])
    ∷ (bounded_of (set nine 8 2), 11 ∷ [])
    ∷ (bounded_of (set nine 31 2), 11 ∷ [])
    ∷ (bounded_of (set nine 33 0), 11 ∷ [])
    ∷ (bounded_of (set nine 11 3), 11 ∷ [])
    ∷ (bounded_of (set nine 30 1), 11 ∷ [])
    ∷ (bounded_of (set nine 30 10), 11 ∷ [])
    ∷ (bounded_of (set nine 2 500), 0 ∷ [])
    ∷ (bounded_of (set nine 27 128), 0 ∷ [])
    ∷ (bounded_of (set nine 28 9), 0 ∷ [])
    ∷ (bounded_of (set nine 30 0), 0 ∷ [])
    ∷ (bounded_of (set nine 30 2), 0 ∷ [])
    ∷ (bounded_of (set nine 30 9), 0 ∷ [])
    ∷ (bounded_of (2 ∷ 1 ∷ 0 ∷ 1 ∷ 0 ∷ 1 ∷ 2 ∷ 0 ∷ 0 ∷ 2 ∷ 0 ∷ []), 0 ∷ [])
    ∷ (bounded_of (2 ∷ 1 ∷ 0 ∷ 1 ∷ 0 ∷ 1 ∷ 2 ∷ 0 ∷ 0 ∷ 2 ∷ 0 ∷ 0 ∷ []), 11 ∷ [])
    ∷ (bounded_of (2 ∷ 1 ∷ 0 ∷ 1 ∷ 0 ∷ 1 ∷ 2 ∷ 0 ∷ 0 ∷ 2 ∷ []), 11 ∷ [])
    -- rule 11 in the second version: a built sheet; C and F; the length; a budget above 500; none; equal ones; falling ones
    ∷ (bounded_of three_seven, 0 ∷ [])
    ∷ (bounded_of (0 ∷ []), 11 ∷ [])
    ∷ (bounded_of (0 ∷ 5 ∷ []), 11 ∷ [])
    ∷ (bounded_of (0 ∷ 5 ∷ 6 ∷ []), 11 ∷ [])
    ∷ (bounded_of (set three_seven 1 4), 11 ∷ [])
    ∷ (bounded_of (set three_seven 3 1), 11 ∷ [])
    ∷ (bounded_of (three_seven ++ (0 ∷ [])), 11 ∷ [])
    ∷ (bounded_of (set three_seven 5 500), 0 ∷ [])
    ∷ (bounded_of (set three_seven 5 501), 11 ∷ [])
    ∷ (bounded_of (set (set three_seven 4 7) 6 1), 11 ∷ [])
    ∷ (bounded_of (set three_seven 4 8), 11 ∷ [])
    ∷ (bounded_of (set three_seven 5 6), 0 ∷ [])
    -- a low above the largest budget; a second copy of block 2
    ∷ (bounded_of (set three_seven 5 5), 11 ∷ [])
    ∷ (bounded_of (set three_seven 17 2), 11 ∷ [])
    -- an entry: 0; the exit; a copy of another block; beyond C; above its budget; the last 0; a start copy that no entry names
    ∷ (bounded_of (set three_seven 6 0), 11 ∷ [])
    ∷ (bounded_of (set three_seven 6 3), 11 ∷ [])
    ∷ (bounded_of (set three_seven 6 4), 11 ∷ [])
    ∷ (bounded_of (set three_seven 6 6), 11 ∷ [])
    ∷ (bounded_of (set three_seven 6 2), 11 ∷ [])
    ∷ (bounded_of (set (set (set three_seven 4 6) 6 2) 7 1), 0 ∷ [])
    ∷ (bounded_of (set (set (set three_seven 4 6) 6 2) 7 0), 11 ∷ [])
    ∷ (bounded_of (set three_seven 7 1), 11 ∷ [])
    ∷ (bounded_of (0 ∷ 2 ∷ 1 ∷ 2 ∷ 0 ∷ 3 ∷ 0 ∷ 1 ∷ 1 ∷ 3 ∷ 1 ∷ 2 ∷ 0 ∷ 0 ∷ 2 ∷ 0 ∷ []), 0 ∷ [])
    ∷ (bounded_of (0 ∷ 2 ∷ 1 ∷ 2 ∷ 3 ∷ 4 ∷ 1 ∷ 1 ∷ 1 ∷ 3 ∷ 1 ∷ 2 ∷ 0 ∷ 0 ∷ 2 ∷ 0 ∷ []), 0 ∷ [])
    -- a target at each start copy, at the exit, beyond C
    ∷ (bounded_of (set three_seven 23 1), 11 ∷ [])
    ∷ (bounded_of (set three_seven 23 2), 11 ∷ [])
    ∷ (bounded_of (set three_seven 23 3), 0 ∷ [])
    ∷ (bounded_of (set three_seven 23 6), 11 ∷ [])
    -- in the first version a second copy of block 1 is not named
    ∷ (bounded_of (3 ∷ 2 ∷ 3 ∷ 1 ∷ 0 ∷ 1 ∷ 1 ∷ 3 ∷ 2 ∷ 2 ∷ 0 ∷ 0 ∷ 3 ∷ 0 ∷ 3 ∷ 0 ∷ []), 11 ∷ [])
    ∷ (part_of three_seven 5, 0 ∷ 4 ∷ 6 ∷ 3 ∷ 0 ∷ [])
    ∷ (part_of three_seven 3, 0 ∷ [])
    ∷ (part_of three_seven 6, 33 ∷ [])
    -- the edge words of a copy: of the start, of a copy with two, of the exit; 33 outside; 11 before 33
    ∷ (part_of nine 1, 0 ∷ 3 ∷ 0 ∷ [])
    ∷ (part_of nine 7, 0 ∷ 8 ∷ 9 ∷ 9 ∷ 0 ∷ [])
    ∷ (part_of nine 2, 0 ∷ [])
    ∷ (part_of nine 9, 0 ∷ 2 ∷ 0 ∷ [])
    ∷ (part_of nine 0, 33 ∷ [])
    ∷ (part_of nine 10, 33 ∷ [])
    ∷ (part_of (2 ∷ []) 0, 11 ∷ [])
    -- a file's words, the lower byte first; an odd last byte is no word
    ∷ (file_of (in_bytes (65535 ∷ 256 ∷ 1 ∷ [])), 65535 ∷ 256 ∷ 1 ∷ [])
    ∷ (file_of (2 ∷ 0 ∷ 7 ∷ []), 2 ∷ [])
    ∷ (file_of [], [])
    -- decimal digits
    ∷ (decimal_of 0, 48 ∷ [])
    ∷ (decimal_of 9, 57 ∷ [])
    ∷ (decimal_of 10, 49 ∷ 48 ∷ [])
    ∷ (decimal_of 65535, 54 ∷ 53 ∷ 53 ∷ 51 ∷ 53 ∷ [])
    -- the listing of the shortest bounded sheet: `copies 2 edges 1 budget 0`, `1 1 0 2`, `2 2 0`
    ∷ (
      text_of (2 ∷ 1 ∷ 0 ∷ 1 ∷ 0 ∷ 1 ∷ 2 ∷ 0 ∷ 0 ∷ 2 ∷ 0 ∷ []),
      lines ("copies 2 edges 1 budget 0" ∷ "1 1 0 2" ∷ "2 2 0" ∷ []),
    )
    ∷ (
      text_of three_seven,
      lines ("copies 5 edges 6 budget 3 7" ∷ "1 1 3 4" ∷ "2 1 6 5" ∷ "3 2 0" ∷ "4 3 3 0 3" ∷ "5 3 6 4 3" ∷ []),
    )
    -- a catalogue's sheets: none; lengths 2 and 0; words after the last that is asked for; a length beyond the words left, with and without words
    ∷ (sheets_of 9 [], [])
    ∷ (sheets_of 9 (2 ∷ 5 ∷ 6 ∷ 0 ∷ 1 ∷ 7 ∷ []), 3 ∷ 5 ∷ 6 ∷ 1 ∷ 2 ∷ 7 ∷ [])
    ∷ (sheets_of 2 (2 ∷ 5 ∷ 6 ∷ 0 ∷ 1 ∷ 7 ∷ []), 3 ∷ 5 ∷ 6 ∷ 1 ∷ [])
    ∷ (sheets_of 9 (2 ∷ 5 ∷ 6 ∷ 2 ∷ 7 ∷ []), 3 ∷ 5 ∷ 6 ∷ 0 ∷ [])
    ∷ (sheets_of 9 (0 ∷ 1 ∷ []), 1 ∷ 0 ∷ [])
    -- 200 of them and one more
    ∷ (sheet_count (replicate 200 0), 200 ∷ [])
    ∷ (sheet_count (replicate 201 0), 200 ∷ [])
    -- the blocks without a copy
    ∷ (unused_of 8 nine, [])
    ∷ (unused_of 10 (3 ∷ 1 ∷ 0 ∷ 1 ∷ 0 ∷ 1 ∷ 2 ∷ 0 ∷ 0 ∷ 5 ∷ 0 ∷ 0 ∷ 2 ∷ 0 ∷ []), 3 ∷ 4 ∷ 6 ∷ 7 ∷ 8 ∷ 9 ∷ 10 ∷ [])
    -- reports: no sheet; only refused ones; a refused one between others, equal fractions, unused blocks; a smaller fraction with more copies;
    -- margins, in the order in which they stand
    ∷ (
      report_from [],
      lines ("total 0 0 0" ∷ "most none" ∷ []),
    )
    ∷ (
      report_from (refused_as 10 ∷ []),
      lines ("1 refused 10" ∷ "total 0 0 0" ∷ "most none" ∷ []),
    )
    ∷ (
      report_from (figured 4 4 5 [] (4 ∷ []) ∷ refused_as 3 ∷ figured 2 3 1 (none ∷ []) [] ∷ figured 4 6 3 (some 12 ∷ none ∷ some 500 ∷ []) (3 ∷ 4 ∷ []) ∷ []),
      lines ("1 4 4 5" ∷ "2 refused 3" ∷ "3 2 3 1 none" ∷ "4 4 6 3 12 none 500"
          ∷ "total 10 13 9" ∷ "most 3 3 2" ∷ "unused 1 4" ∷ "unused 4 3" ∷ "unused 4 4" ∷ []),
    )
    ∷ (
      report_from (figured 100 149 9 [] [] ∷ figured 2 3 1 [] [] ∷ figured 3 4 1 [] [] ∷ []),
      lines ("1 100 149 9" ∷ "2 2 3 1" ∷ "3 3 4 1" ∷ "total 105 156 11" ∷ "most 2 3 2" ∷ []),
    )
    ∷ []
