-- The calls' refusals, pinned by rows of one list: each number, each limit at and one past it, neighbours in each order with both faults.
-- Rests on theory Machines, formats Samples, Moves, Cases.
use Rattle.std.specs.Prelude.{List, [], ◌∷◌, ◌++◌, ℕ, replicate}
use Rattle.theory.specs.Machines.{End, going, exit, diverted}
use Rattle.formats.specs.Samples.{paper, loop, loop_with, least, nine, six, three_seven, in_bytes, lines}
use Rattle.calls.specs.Moves.{Budgeted, budgeted}
use Rattle.calls.specs.Cases.{Case, area_with, sheet_of, sheet_with, build_of, guarded_of, move_of, start_of, enter_of, monitor_of, listing_for, report_for}

-- a walk with the budget number n, and with the first one's
abbrev walk_with : ℕ → ℕ → ℕ → End → Budgeted
walk_with n p c e = budgeted n (record { place = p; count = c; end = e })

abbrev walk : ℕ → ℕ → End → Budgeted
walk p c e = walk_with 1 p c e

-- blocks 3 and 4, of cost 1 and 2, each from the start and to the exit; B = 1
unfoldable pub sparing : List ℕ
sparing = 4 ∷ 4 ∷ 1 ∷ 0 ∷ 1 ∷ 0 ∷ 0 ∷ 1 ∷ 3 ∷ 2 ∷ 4 ∷ 3 ∷ 2 ∷ 4 ∷ 0 ∷ 2 ∷ 0 ∷ 2 ∷ 0 ∷ []

-- block 3, of cost 5, from the start and to the exit; B = 1, so that nothing fits
unfoldable pub dear : List ℕ
dear = 3 ∷ 2 ∷ 1 ∷ 0 ∷ 1 ∷ 0 ∷ 0 ∷ 5 ∷ 2 ∷ 3 ∷ 0 ∷ 2 ∷ 0 ∷ []

-- the exit has a chain
unfoldable pub exit_chained : List ℕ
exit_chained = 2 ∷ 1 ∷ 0 ∷ 0 ∷ 0 ∷ 0 ∷ 1 ∷ 2 ∷ 0 ∷ []

-- the work areas of `dear` and of the loop at 6, by the completion costs of each block
abbrev dear_area : List ℕ
dear_area = area_with 3 1 ((2, 0) ∷ [])

abbrev loop_area : List ℕ
loop_area = area_with 3 6 ((1, 3) ∷ (1, 6) ∷ (2, 0) ∷ (3, 3) ∷ (3, 6) ∷ [])

unfoldable pub refusals : List (Case × List ℕ)
refusals =
    -- a build: 0 with the shortest buffers and with longer ones, whose rest stays
    (
      build_of (record { sheet = least; handler = 0; area = replicate 2 7; output = replicate 11 9 }),
      0 ∷ 1 ∷ 1 ∷ 2 ∷ 1 ∷ 0 ∷ 1 ∷ 0 ∷ 1 ∷ 2 ∷ 0 ∷ 0 ∷ 2 ∷ 0 ∷ [],
    )
    ∷ (
      build_of (record { sheet = least; handler = 0; area = replicate 3 7; output = replicate 12 9 }),
      0 ∷ 1 ∷ 1 ∷ 7 ∷ 2 ∷ 1 ∷ 0 ∷ 1 ∷ 0 ∷ 1 ∷ 2 ∷ 0 ∷ 0 ∷ 2 ∷ 0 ∷ 9 ∷ [],
    )
    -- 1: the area keeps its content, also where it has room for a header of one word
    ∷ (build_of (record { sheet = 2 ∷ []; handler = 0; area = replicate 3 7; output = 9 ∷ [] }), 1 ∷ 7 ∷ 7 ∷ 7 ∷ 9 ∷ [])
    -- 8 before 21: the area keeps its content; 21 before 9 and 22; 9 before 22, 22: the area is filled, the output stays
    ∷ (build_of (record { sheet = exit_chained; handler = 0; area = 7 ∷ []; output = 9 ∷ [] }), 8 ∷ 7 ∷ 9 ∷ [])
    ∷ (
      build_of (record { sheet = dear; handler = 0; area = replicate 5 7; output = 9 ∷ [] }),
      21 ∷ 7 ∷ 7 ∷ 7 ∷ 7 ∷ 7 ∷ 9 ∷ [],
    )
    ∷ (build_of (record { sheet = least; handler = 0; area = 7 ∷ []; output = 9 ∷ [] }), 21 ∷ 7 ∷ 9 ∷ [])
    ∷ (
      build_of (record { sheet = dear; handler = 0; area = replicate 7 7; output = 9 ∷ [] }),
      9 ∷ (dear_area ++ (7 ∷ 9 ∷ [])),
    )
    ∷ (
      build_of (record { sheet = least; handler = 0; area = replicate 2 7; output = replicate 10 9 }),
      22 ∷ 1 ∷ 1 ∷ 9 ∷ 9 ∷ 9 ∷ 9 ∷ 9 ∷ 9 ∷ 9 ∷ 9 ∷ 9 ∷ 9 ∷ [],
    )
    -- a loop's second turn, a cost of exactly B, a block out of reach, a dead end: the bytes of the area
    ∷ (
      build_of (record { sheet = loop 6; handler = 0; area = replicate 21 7; output = [] }),
      22 ∷ loop_area,
    )
    ∷ (
      build_of (record { sheet = 4 ∷ 2 ∷ 2 ∷ 0 ∷ 1 ∷ 0 ∷ 0 ∷ 1 ∷ 0 ∷ 2 ∷ 2 ∷ 2 ∷ 0 ∷ 2 ∷ 0 ∷ []; handler = 0; area = replicate 12 7; output = [] }),
      22 ∷ area_with 4 2 ((1, 0) ∷ (2, 0) ∷ (4, 2) ∷ []),
    )
    -- a guarded move: 8 before 21, 21 before 9, 9 before 33, 33 before 32, 32 before 31; the walk stays, the area only before 9
    ∷ (
      guarded_of exit_chained 0 (walk 0 0 going) (record { choice = 1; area = 7 ∷ [] }),
      8 ∷ 0 ∷ 0 ∷ 0 ∷ 1 ∷ 7 ∷ [],
    )
    ∷ (
      guarded_of dear 0 (walk 0 0 going) (record { choice = 1; area = replicate 5 7 }),
      21 ∷ 0 ∷ 0 ∷ 0 ∷ 1 ∷ 7 ∷ 7 ∷ 7 ∷ 7 ∷ 7 ∷ [],
    )
    ∷ (
      guarded_of dear 0 (walk 0 0 going) (record { choice = 1; area = replicate 6 7 }),
      9 ∷ 0 ∷ 0 ∷ 0 ∷ 1 ∷ dear_area,
    )
    ∷ (
      guarded_of (loop 6) 0 (walk 0 0 diverted) (record { choice = 0; area = replicate 21 7 }),
      33 ∷ 0 ∷ 0 ∷ 2 ∷ 1 ∷ loop_area,
    )
    ∷ (
      guarded_of (loop 6) 0 (walk 1 0 diverted) (record { choice = 0; area = replicate 21 7 }),
      32 ∷ 1 ∷ 0 ∷ 2 ∷ 1 ∷ loop_area,
    )
    ∷ (
      guarded_of (loop 6) 0 (walk 2 6 exit) (record { choice = 1; area = replicate 21 7 }),
      32 ∷ 2 ∷ 6 ∷ 1 ∷ 1 ∷ loop_area,
    )
    ∷ (
      guarded_of (loop 6) 0 (walk 1 0 going) (record { choice = 0; area = replicate 21 7 }),
      31 ∷ 1 ∷ 0 ∷ 0 ∷ 1 ∷ loop_area,
    )
    ∷ (
      guarded_of (loop 6) 0 (walk 1 0 going) (record { choice = 2; area = replicate 21 7 }),
      31 ∷ 1 ∷ 0 ∷ 0 ∷ 1 ∷ loop_area,
    )
    -- 33: the place outside the sheet, end exit and place 2 not together either way, the count above B of a going and of an ended walk
    ∷ (
      guarded_of (loop 6) 0 (walk 4 0 going) (record { choice = 1; area = replicate 21 7 }),
      33 ∷ 4 ∷ 0 ∷ 0 ∷ 1 ∷ loop_area,
    )
    ∷ (
      guarded_of (loop 6) 0 (walk 3 0 exit) (record { choice = 1; area = replicate 21 7 }),
      33 ∷ 3 ∷ 0 ∷ 1 ∷ 1 ∷ loop_area,
    )
    ∷ (
      guarded_of (loop 6) 0 (walk 2 0 going) (record { choice = 1; area = replicate 21 7 }),
      33 ∷ 2 ∷ 0 ∷ 0 ∷ 1 ∷ loop_area,
    )
    ∷ (
      guarded_of (loop 6) 0 (walk 2 0 diverted) (record { choice = 1; area = replicate 21 7 }),
      33 ∷ 2 ∷ 0 ∷ 2 ∷ 1 ∷ loop_area,
    )
    ∷ (
      guarded_of (loop 6) 0 (walk 3 7 going) (record { choice = 1; area = replicate 21 7 }),
      33 ∷ 3 ∷ 7 ∷ 0 ∷ 1 ∷ loop_area,
    )
    ∷ (
      guarded_of (loop 6) 0 (walk 3 7 diverted) (record { choice = 1; area = replicate 21 7 }),
      33 ∷ 3 ∷ 7 ∷ 2 ∷ 1 ∷ loop_area,
    )
    ∷ (
      guarded_of (loop 6) 0 (walk 3 6 diverted) (record { choice = 1; area = replicate 21 7 }),
      32 ∷ 3 ∷ 6 ∷ 2 ∷ 1 ∷ loop_area,
    )
    -- 0: a block is entered, the exit is entered, the walk is diverted and keeps place and count; a path of cost exactly B is kept
    ∷ (
      guarded_of (loop 6) 0 (walk 1 0 going) (record { choice = 1; area = replicate 21 7 }),
      0 ∷ 3 ∷ 3 ∷ 0 ∷ 1 ∷ loop_area,
    )
    ∷ (
      guarded_of (loop 6) 0 (walk 3 3 going) (record { choice = 1; area = replicate 21 7 }),
      0 ∷ 3 ∷ 6 ∷ 0 ∷ 1 ∷ loop_area,
    )
    ∷ (
      guarded_of (loop 6) 0 (walk 3 6 going) (record { choice = 2; area = replicate 21 7 }),
      0 ∷ 2 ∷ 6 ∷ 1 ∷ 1 ∷ loop_area,
    )
    ∷ (
      guarded_of (loop 6) 0 (walk 3 6 going) (record { choice = 1; area = replicate 21 7 }),
      0 ∷ 3 ∷ 6 ∷ 2 ∷ 1 ∷ loop_area,
    )
    -- a bounded move: 11 before 33, 33 before 32, 32 before 31; the walk stays
    ∷ (move_of (2 ∷ []) (walk 0 0 going) 1, 11 ∷ 0 ∷ 0 ∷ 0 ∷ 1 ∷ [])
    ∷ (move_of six (walk 0 0 diverted) 0, 33 ∷ 0 ∷ 0 ∷ 2 ∷ 1 ∷ [])
    ∷ (move_of six (walk 1 1 diverted) 0, 32 ∷ 1 ∷ 1 ∷ 2 ∷ 1 ∷ [])
    ∷ (move_of six (walk 2 3 exit) 1, 32 ∷ 2 ∷ 3 ∷ 1 ∷ 1 ∷ [])
    ∷ (move_of six (walk 1 0 going) 0, 31 ∷ 1 ∷ 0 ∷ 0 ∷ 1 ∷ [])
    ∷ (move_of six (walk 4 1 going) 3, 31 ∷ 4 ∷ 1 ∷ 0 ∷ 1 ∷ [])
    -- 33: the place, the end, the count: B while going, B + 1 once ended
    ∷ (move_of six (walk 5 0 going) 1, 33 ∷ 5 ∷ 0 ∷ 0 ∷ 1 ∷ [])
    ∷ (move_of six (walk 3 0 exit) 1, 33 ∷ 3 ∷ 0 ∷ 1 ∷ 1 ∷ [])
    ∷ (move_of six (walk 2 0 going) 1, 33 ∷ 2 ∷ 0 ∷ 0 ∷ 1 ∷ [])
    ∷ (move_of six (walk 2 0 diverted) 1, 33 ∷ 2 ∷ 0 ∷ 2 ∷ 1 ∷ [])
    ∷ (move_of six (walk 1 7 going) 1, 33 ∷ 1 ∷ 7 ∷ 0 ∷ 1 ∷ [])
    ∷ (move_of six (walk 1 8 diverted) 1, 33 ∷ 1 ∷ 8 ∷ 2 ∷ 1 ∷ [])
    ∷ (move_of six (walk 1 7 diverted) 1, 32 ∷ 1 ∷ 7 ∷ 2 ∷ 1 ∷ [])
    -- 0: a copy is entered, the exit, the exception exit; the count goes on from B
    ∷ (move_of six (walk 1 0 going) 1, 0 ∷ 4 ∷ 1 ∷ 0 ∷ 1 ∷ [])
    ∷ (move_of six (walk 4 1 going) 2, 0 ∷ 2 ∷ 2 ∷ 1 ∷ 1 ∷ [])
    ∷ (move_of six (walk 3 2 going) 1, 0 ∷ 3 ∷ 3 ∷ 2 ∷ 1 ∷ [])
    ∷ (move_of six (walk 1 6 going) 1, 0 ∷ 4 ∷ 7 ∷ 0 ∷ 1 ∷ [])
    -- the monitor over lists of choices: empty, 0, too large, after the end, a path of cost exactly B, one choice more
    ∷ (monitor_of (loop 6) 0 1 [], 1 ∷ 0 ∷ 0 ∷ [])
    ∷ (monitor_of (loop 6) 0 1 (0 ∷ []), 31 ∷ 1 ∷ 0 ∷ 0 ∷ [])
    ∷ (monitor_of (loop 6) 0 1 (2 ∷ []), 31 ∷ 1 ∷ 0 ∷ 0 ∷ [])
    ∷ (monitor_of (loop 6) 0 1 (1 ∷ 3 ∷ []), 0 ∷ 31 ∷ 3 ∷ 3 ∷ 0 ∷ [])
    ∷ (monitor_of (loop 6) 0 1 (1 ∷ 2 ∷ 1 ∷ 0 ∷ []), 0 ∷ 0 ∷ 32 ∷ 32 ∷ 2 ∷ 3 ∷ 1 ∷ [])
    ∷ (monitor_of (loop 6) 0 1 (1 ∷ 1 ∷ 2 ∷ []), 0 ∷ 0 ∷ 0 ∷ 2 ∷ 6 ∷ 1 ∷ [])
    ∷ (monitor_of (loop 6) 0 1 (1 ∷ 1 ∷ 1 ∷ 2 ∷ []), 0 ∷ 0 ∷ 0 ∷ 32 ∷ 3 ∷ 6 ∷ 2 ∷ [])
    -- SEVERAL BUDGETS. A build: two start copies, of which each entry names its own; equal ones shared; nothing fits the first; nothing fits any
    ∷ (sheet_of (loop_with (3 ∷ 7 ∷ [])), 0 ∷ 0 ∷ three_seven)
    ∷ (
      sheet_of (loop_with (6 ∷ 7 ∷ [])),
      0 ∷ 0 ∷ 0 ∷ 4 ∷ 5 ∷ 2 ∷ 6 ∷ 7 ∷ 1 ∷ 1
          ∷ 1 ∷ 6 ∷ 1 ∷ 2 ∷ 0 ∷ 0 ∷ 3 ∷ 3 ∷ 2 ∷ 3 ∷ 6 ∷ 4
          ∷ 4 ∷ 0 ∷ 0 ∷ 3 ∷ 2 ∷ 0 ∷ 3 ∷ 5 ∷ 2 ∷ 0 ∷ [],
    )
    ∷ (
      sheet_of (loop_with (2 ∷ 3 ∷ [])),
      0 ∷ 0 ∷ 0 ∷ 3 ∷ 3 ∷ 2 ∷ 2 ∷ 3 ∷ 0 ∷ 1
          ∷ 1 ∷ 3 ∷ 1 ∷ 2 ∷ 0 ∷ 0 ∷ 3 ∷ 3 ∷ 2
          ∷ 3 ∷ 0 ∷ 0 ∷ 3 ∷ 2 ∷ 0 ∷ [],
    )
    ∷ (sheet_of (loop_with (1 ∷ 2 ∷ [])), 9 ∷ [])
    -- 21 goes by the largest budget; 22 counts the new header
    ∷ (
      build_of (record { sheet = loop_with (2 ∷ 3 ∷ []); handler = 0; area = replicate 11 7; output = [] }),
      21 ∷ replicate 11 7,
    )
    ∷ (
      build_of (record { sheet = loop_with (2 ∷ 3 ∷ []); handler = 0; area = replicate 12 7; output = replicate 22 9 }),
      22 ∷ (area_with 3 3 ((1, 3) ∷ (2, 0) ∷ (3, 3) ∷ []) ++ replicate 22 9),
    )
    -- a budget number outside the sheet is 33, in a move and in a start, before 32; 9 before it; the number of a first-version sheet is 1
    ∷ (
      guarded_of (loop 6) 0 (walk_with 2 1 0 diverted) (record { choice = 1; area = replicate 21 7 }),
      33 ∷ 1 ∷ 0 ∷ 2 ∷ 2 ∷ loop_area,
    )
    ∷ (
      guarded_of (loop_with (3 ∷ 6 ∷ [])) 0 (walk_with 0 1 0 going) (record { choice = 1; area = replicate 21 7 }),
      33 ∷ 1 ∷ 0 ∷ 0 ∷ 0 ∷ loop_area,
    )
    ∷ (
      guarded_of (loop_with (3 ∷ 6 ∷ [])) 0 (walk_with 3 1 0 going) (record { choice = 1; area = replicate 21 7 }),
      33 ∷ 1 ∷ 0 ∷ 0 ∷ 3 ∷ loop_area,
    )
    ∷ (move_of three_seven (walk_with 3 1 0 going) 1, 33 ∷ 1 ∷ 0 ∷ 0 ∷ 3 ∷ [])
    ∷ (move_of six (walk_with 2 1 0 going) 1, 33 ∷ 1 ∷ 0 ∷ 0 ∷ 2 ∷ [])
    -- a move reads its budget as B: the loop's turn is diverted with 3 and taken with 6, the count is at most B
    ∷ (
      guarded_of (loop_with (3 ∷ 6 ∷ [])) 0 (walk_with 1 3 3 going) (record { choice = 1; area = replicate 21 7 }),
      0 ∷ 3 ∷ 3 ∷ 2 ∷ 1 ∷ loop_area,
    )
    ∷ (
      guarded_of (loop_with (3 ∷ 6 ∷ [])) 0 (walk_with 2 3 3 going) (record { choice = 1; area = replicate 21 7 }),
      0 ∷ 3 ∷ 6 ∷ 0 ∷ 2 ∷ loop_area,
    )
    ∷ (
      guarded_of (loop_with (3 ∷ 6 ∷ [])) 0 (walk_with 1 3 6 going) (record { choice = 1; area = replicate 21 7 }),
      33 ∷ 3 ∷ 6 ∷ 0 ∷ 1 ∷ loop_area,
    )
    ∷ (move_of three_seven (walk_with 1 5 4 going) 2, 33 ∷ 5 ∷ 4 ∷ 0 ∷ 1 ∷ [])
    ∷ (move_of three_seven (walk_with 1 5 4 diverted) 2, 32 ∷ 5 ∷ 4 ∷ 2 ∷ 1 ∷ [])
    ∷ (move_of three_seven (walk_with 2 5 4 going) 2, 0 ∷ 3 ∷ 5 ∷ 1 ∷ 2 ∷ [])
    -- the exit is copy 3: a walk that has ended there, one that stands at place 2
    ∷ (move_of three_seven (walk_with 2 3 4 exit) 1, 32 ∷ 3 ∷ 4 ∷ 1 ∷ 2 ∷ [])
    ∷ (move_of three_seven (walk_with 2 3 4 going) 1, 33 ∷ 3 ∷ 4 ∷ 0 ∷ 2 ∷ [])
    ∷ (move_of three_seven (walk_with 2 2 4 exit) 1, 33 ∷ 2 ∷ 4 ∷ 1 ∷ 2 ∷ [])
    ∷ (move_of three_seven (walk_with 2 2 4 going) 1, 0 ∷ 5 ∷ 5 ∷ 0 ∷ 2 ∷ [])
    -- a guarded start: 8 before 21, 21 before 9, 9 before 33; the walk stays; 0: going, or diverted where nothing fits
    ∷ (start_of exit_chained 0 (walk 5 6 exit) (record { number = 0; area = 7 ∷ [] }), 8 ∷ 5 ∷ 6 ∷ 1 ∷ 1 ∷ 7 ∷ [])
    ∷ (start_of dear 0 (walk 5 6 exit) (record { number = 0; area = replicate 5 7 }), 21 ∷ 5 ∷ 6 ∷ 1 ∷ 1 ∷ replicate 5 7)
    ∷ (start_of dear 0 (walk 5 6 exit) (record { number = 0; area = replicate 6 7 }), 9 ∷ 5 ∷ 6 ∷ 1 ∷ 1 ∷ dear_area)
    ∷ (start_of (loop 6) 0 (walk 5 6 exit) (record { number = 0; area = replicate 21 7 }), 33 ∷ 5 ∷ 6 ∷ 1 ∷ 1 ∷ loop_area)
    ∷ (start_of (loop 6) 0 (walk 5 6 exit) (record { number = 2; area = replicate 21 7 }), 33 ∷ 5 ∷ 6 ∷ 1 ∷ 1 ∷ loop_area)
    ∷ (start_of (loop 6) 0 (walk 5 6 exit) (record { number = 1; area = replicate 21 7 }), 0 ∷ 1 ∷ 0 ∷ 0 ∷ 1 ∷ loop_area)
    ∷ (start_of (loop_with (2 ∷ 6 ∷ [])) 0 (walk 5 6 exit) (record { number = 1; area = replicate 21 7 }), 0 ∷ 1 ∷ 0 ∷ 2 ∷ 1 ∷ loop_area)
    ∷ (start_of (loop_with (2 ∷ 6 ∷ [])) 0 (walk 5 6 exit) (record { number = 2; area = replicate 21 7 }), 0 ∷ 1 ∷ 0 ∷ 0 ∷ 2 ∷ loop_area)
    -- a bounded start: 11 before 33; 0: at the entry, or diverted at place 1
    ∷ (enter_of (2 ∷ []) (walk 5 6 exit) 0, 11 ∷ 5 ∷ 6 ∷ 1 ∷ 1 ∷ [])
    ∷ (enter_of three_seven (walk 5 6 exit) 0, 33 ∷ 5 ∷ 6 ∷ 1 ∷ 1 ∷ [])
    ∷ (enter_of three_seven (walk 5 6 exit) 3, 33 ∷ 5 ∷ 6 ∷ 1 ∷ 1 ∷ [])
    ∷ (enter_of six (walk 5 6 exit) 2, 33 ∷ 5 ∷ 6 ∷ 1 ∷ 1 ∷ [])
    ∷ (enter_of three_seven (walk 5 6 exit) 1, 0 ∷ 1 ∷ 0 ∷ 0 ∷ 1 ∷ [])
    ∷ (enter_of three_seven (walk 5 6 exit) 2, 0 ∷ 2 ∷ 0 ∷ 0 ∷ 2 ∷ [])
    ∷ (enter_of six (walk 5 6 exit) 1, 0 ∷ 1 ∷ 0 ∷ 0 ∷ 1 ∷ [])
    ∷ (
      enter_of (0 ∷ 3 ∷ 3 ∷ 2 ∷ 2 ∷ 3 ∷ 0 ∷ 1 ∷ 1 ∷ 3 ∷ 1 ∷ 2 ∷ 0 ∷ 0 ∷ 3 ∷ 3 ∷ 2 ∷ 3 ∷ 0 ∷ 0 ∷ 3 ∷ 2 ∷ 0 ∷ []) (walk 5 6 exit) 1,
      0 ∷ 1 ∷ 0 ∷ 2 ∷ 1 ∷ [],
    )
    -- the monitor with each budget: diverted where nothing fits, and at the turn that its own budget does not leave
    ∷ (monitor_of (loop_with (2 ∷ 6 ∷ [])) 0 1 (1 ∷ []), 32 ∷ 1 ∷ 0 ∷ 2 ∷ [])
    ∷ (monitor_of (loop_with (3 ∷ 6 ∷ [])) 0 1 (1 ∷ 1 ∷ []), 0 ∷ 0 ∷ 3 ∷ 3 ∷ 2 ∷ [])
    ∷ (monitor_of (loop_with (3 ∷ 6 ∷ [])) 0 2 (1 ∷ 1 ∷ []), 0 ∷ 0 ∷ 3 ∷ 6 ∷ 0 ∷ [])
    -- THE HANDLER'S COST. A build: the document's example with 1 less of 9 is that with 8, with 3 less of 12 that with 9; with 1 less of 13 nothing is
    -- diverted, and the sheet carries 12; with all of 9 nothing fits; with more it is 43
    ∷ (
      sheet_with (paper 9) 1,
      0 ∷ 0 ∷ 7 ∷ 8 ∷ 8
          ∷ 1 ∷ 8 ∷ 1 ∷ 2 ∷ 0 ∷ 0 ∷ 3 ∷ 8 ∷ 2 ∷ 4 ∷ 3 ∷ 4 ∷ 5 ∷ 6 ∷ 5 ∷ 6 ∷ 2 ∷ 6 ∷ 7 ∷ 1 ∷ 8
          ∷ 3 ∷ 0 ∷ 4 ∷ 3 ∷ 5 ∷ 0 ∷ 6 ∷ 0 ∷ 6 ∷ 0 ∷ 7 ∷ 7 ∷ 0 ∷ 0 ∷ 2 ∷ 0 ∷ [],
    )
    ∷ (sheet_with (paper 12) 3, 0 ∷ 0 ∷ nine)
    ∷ (
      sheet_with (paper 13) 1,
      0 ∷ 0 ∷ 8 ∷ 9 ∷ 12
          ∷ 1 ∷ 12 ∷ 1 ∷ 2 ∷ 0 ∷ 0 ∷ 3 ∷ 12 ∷ 2 ∷ 4 ∷ 7 ∷ 4 ∷ 5 ∷ 10 ∷ 5 ∷ 6 ∷ 6 ∷ 6 ∷ 7 ∷ 1 ∷ 8 ∷ 8 ∷ 5 ∷ 9
          ∷ 3 ∷ 0 ∷ 4 ∷ 3 ∷ 5 ∷ 0 ∷ 6 ∷ 0 ∷ 6 ∷ 0 ∷ 7 ∷ 7 ∷ 8 ∷ 0 ∷ 2 ∷ 0 ∷ 2 ∷ 0 ∷ [],
    )
    ∷ (sheet_with (paper 9) 9, 9 ∷ [])
    ∷ (sheet_with (paper 9) 10, 43 ∷ [])
    -- each of two budgets is lowered; the smallest to 0, which nothing fits
    ∷ (sheet_with (loop_with (4 ∷ 8 ∷ [])) 1, 0 ∷ 0 ∷ three_seven)
    ∷ (
      sheet_with (loop_with (3 ∷ 9 ∷ [])) 3,
      0 ∷ 0 ∷ 0 ∷ 4 ∷ 5 ∷ 2 ∷ 0 ∷ 6 ∷ 0 ∷ 1
          ∷ 1 ∷ 6 ∷ 1 ∷ 2 ∷ 0 ∷ 0 ∷ 3 ∷ 3 ∷ 2 ∷ 3 ∷ 6 ∷ 4
          ∷ 4 ∷ 0 ∷ 0 ∷ 3 ∷ 2 ∷ 0 ∷ 3 ∷ 5 ∷ 2 ∷ 0 ∷ [],
    )
    -- the area goes by the lowered budget: 21 one byte short of it, and what is behind it stays; under 43, before 8 and 21, all stays
    ∷ (
      build_of (record { sheet = loop 7; handler = 1; area = replicate 20 7; output = [] }),
      21 ∷ replicate 20 7,
    )
    ∷ (
      build_of (record { sheet = loop 7; handler = 1; area = replicate 24 7; output = [] }),
      22 ∷ (loop_area ++ replicate 3 7),
    )
    ∷ (
      build_of (record { sheet = loop 7; handler = 8; area = replicate 24 7; output = 9 ∷ [] }),
      43 ∷ (replicate 24 7 ++ (9 ∷ [])),
    )
    ∷ (build_of (record { sheet = exit_chained; handler = 1; area = []; output = 9 ∷ [] }), 43 ∷ 9 ∷ [])
    -- a guarded move by the lowered budget: 33 above it, the loop's turn that it does not leave; a guarded start; 43 leaves walk and area
    ∷ (
      guarded_of (loop 7) 1 (walk 3 7 going) (record { choice = 1; area = replicate 21 7 }),
      33 ∷ 3 ∷ 7 ∷ 0 ∷ 1 ∷ loop_area,
    )
    ∷ (
      guarded_of (loop 9) 3 (walk 3 6 going) (record { choice = 1; area = replicate 21 7 }),
      0 ∷ 3 ∷ 6 ∷ 2 ∷ 1 ∷ loop_area,
    )
    ∷ (
      guarded_of (loop_with (5 ∷ 8 ∷ [])) 2 (walk_with 1 3 3 going) (record { choice = 1; area = replicate 21 7 }),
      0 ∷ 3 ∷ 3 ∷ 2 ∷ 1 ∷ loop_area,
    )
    ∷ (
      guarded_of (loop 7) 8 (walk 0 0 going) (record { choice = 1; area = 7 ∷ [] }),
      43 ∷ 0 ∷ 0 ∷ 0 ∷ 1 ∷ 7 ∷ [],
    )
    ∷ (start_of (loop_with (4 ∷ 8 ∷ [])) 2 (walk 5 6 exit) (record { number = 1; area = replicate 21 7 }), 0 ∷ 1 ∷ 0 ∷ 2 ∷ 1 ∷ loop_area)
    ∷ (start_of (loop_with (4 ∷ 8 ∷ [])) 2 (walk 5 6 exit) (record { number = 2; area = replicate 21 7 }), 0 ∷ 1 ∷ 0 ∷ 0 ∷ 2 ∷ loop_area)
    ∷ (start_of (loop_with (4 ∷ 8 ∷ [])) 5 (walk 5 6 exit) (record { number = 0; area = 7 ∷ [] }), 43 ∷ 5 ∷ 6 ∷ 1 ∷ 1 ∷ 7 ∷ [])
    -- the monitor: a path of cost 6 is kept with 1 less of 7, and diverted with 2 less
    ∷ (monitor_of (loop 7) 1 1 (1 ∷ 1 ∷ 2 ∷ []), 0 ∷ 0 ∷ 0 ∷ 2 ∷ 6 ∷ 1 ∷ [])
    ∷ (monitor_of (loop 7) 2 1 (1 ∷ 1 ∷ 2 ∷ []), 0 ∷ 0 ∷ 32 ∷ 3 ∷ 3 ∷ 2 ∷ [])
    ∷ (monitor_of (loop_with (4 ∷ 8 ∷ [])) 2 1 (1 ∷ []), 32 ∷ 1 ∷ 0 ∷ 2 ∷ [])
    -- the listing gives all budgets
    ∷ (
      listing_for (in_bytes (loop_with (3 ∷ 7 ∷ []))),
      lines ("copies 5 edges 6 budget 3 7" ∷ "1 1 3 4" ∷ "2 1 6 5" ∷ "3 2 0" ∷ "4 3 3 0 3" ∷ "5 3 6 4 3" ∷ []),
    )
    ∷ (listing_for (in_bytes (loop_with (7 ∷ 7 ∷ []))), lines ("refused 41" ∷ []))
    -- the listing program: no byte, an odd byte more or less, an odd number of bytes of a long file, one word too few
    ∷ (listing_for [], lines ("refused 1" ∷ []))
    ∷ (listing_for (0 ∷ in_bytes least), lines ("refused 1" ∷ []))
    ∷ (listing_for (replicate 21 129), lines ("refused 1" ∷ []))
    ∷ (listing_for (replicate 20 129), lines ("refused 2" ∷ []))
    -- the report program: an empty sheet is 1, a length beyond the words left 3; an odd last byte is ignored, an odd first one moves all words
    ∷ (
      report_for (in_bytes ((9 ∷ least) ++ ((15 ∷ loop 9) ++ ((15 ∷ loop 2) ++ (0 ∷ (19 ∷ sparing) ++ (10 ∷ least)))))),
      lines ("1 2 2 1 none none" ∷ "2 3 5 7 none none 3 3 none" ∷ "3 refused 9" ∷ "4 refused 1" ∷ "5 4 3 3 none none none" ∷ "6 refused 3"
          ∷ "total 9 10 11" ∷ "most 2 5 3" ∷ "unused 5 4" ∷ []),
    )
    ∷ (
      report_for (in_bytes (9 ∷ least) ++ (9 ∷ [])),
      lines ("1 2 2 1 none none" ∷ "total 2 2 1" ∷ "most 1 2 2" ∷ []),
    )
    ∷ (
      report_for (0 ∷ in_bytes (9 ∷ least)),
      lines ("1 refused 3" ∷ "total 0 0 0" ∷ "most none" ∷ []),
    )
    -- margins: block 4 has 3 and 7, so that (4, 3) lacks 4 with a budget of 7 and has none with 6; block 5 has 6 and 10, with a budget of 11
    ∷ (
      report_for (in_bytes ((37 ∷ paper 6) ++ ((37 ∷ paper 7) ++ (37 ∷ paper 11)))),
      lines ("1 8 6 7 none none none none 4 none" ∷ "2 8 6 7 none none none 4 4 none" ∷ "3 8 9 11 none none none none 4 4 none none none"
          ∷ "total 24 21 25" ∷ "most 3 9 8" ∷ "unused 1 5" ∷ "unused 1 8" ∷ "unused 2 5" ∷ "unused 2 8" ∷ []),
    )
    -- of the loop with budgets 3 and 7 the start copy of the smaller one lacks 3, as far as the larger one goes; a refused sheet has none
    ∷ (
      report_for (in_bytes ((18 ∷ loop_with (3 ∷ 7 ∷ [])) ++ (18 ∷ loop_with (7 ∷ 7 ∷ [])))),
      lines ("1 3 5 6 3 none none 3 none" ∷ "2 refused 41" ∷ "total 3 5 6" ∷ "most 1 5 3" ∷ []),
    )
    ∷ []
