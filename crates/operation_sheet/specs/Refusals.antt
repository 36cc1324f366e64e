-- The converter pinned by rows of one list: each number, each limit at and one past it, neighbours in the order with both faults, and what is
-- written. Rests on base Lists, formats GraphSheet, Operations.
use Rattle.std.specs.Prelude.{Bool, true, false, List, [], ◌∷◌, ◌++◌, ℕ, replicate, set}
use Rattle.base.specs.Lists.{each, from}
use Rattle.formats.specs.GraphSheet.{header_of}
use Rattle.operation_sheet.specs.Operations.{many_records, convert}

-- block 3 to itself and to the exit, behind a header: the first operations of the three blocks, and what comes behind the edges
unfoldable pub behind : List ℕ → ℕ → ℕ → ℕ → List ℕ → List ℕ
behind head a b c rest = head ++ (a ∷ 1 ∷ b ∷ 0 ∷ c ∷ 2 ∷ 3 ∷ 0 ∷ 3 ∷ 3 ∷ 2 ∷ 0 ∷ []) ++ rest

abbrev first : ℕ → ℕ → ℕ → List ℕ → List ℕ
first = behind (3 ∷ 3 ∷ 7 ∷ [])

abbrev second : ℕ → ℕ → ℕ → List ℕ → List ℕ
second = behind (0 ∷ 3 ∷ 3 ∷ 2 ∷ 3 ∷ 7 ∷ [])

-- block 3 with one record of this operation
abbrev one : ℕ → List ℕ
one k = first 0 0 1 (1 ∷ k ∷ 0 ∷ [])

-- blocks 3 and 4, one after the other, with these first operations of two records
unfoldable pub two : ℕ → ℕ → ℕ → ℕ → List ℕ
two a b m n =
    4 ∷ 3 ∷ 9 ∷ 0 ∷ 1 ∷ 0 ∷ 0 ∷ a ∷ 2 ∷ b ∷ 3 ∷ 3 ∷ 0 ∷ 4 ∷ 0 ∷ 2 ∷ 0
    ∷ 2 ∷ 12 ∷ m ∷ 8 ∷ n ∷ []

-- one input: a sheet and the length of a row of sevens; or a number of records
pub data Case : Type 0 where
  conversion : List ℕ → ℕ → Case
  records_are : ℕ → Case

abbrev said : Bool → ℕ
said b = elim b [ true ↦ 1 | false ↦ 0 ]

unfoldable pub outcome : Case → List ℕ
outcome (conversion w n) = let r = convert w (replicate n 7) in r.answer ∷ r.output
outcome (records_are m) = said (many_records (header_of 0 0 0) (m ∷ [])) ∷ []

-- what is written: the loop's graph sheet with this cost, and so many sevens behind it
unfoldable pub wrote : ℕ → ℕ → List ℕ
wrote c n = 0 ∷ 3 ∷ 3 ∷ 7 ∷ 0 ∷ 1 ∷ 0 ∷ 0 ∷ c ∷ 2 ∷ 3 ∷ 0 ∷ 3 ∷ 3 ∷ 2 ∷ 0 ∷ replicate n 7

-- a number, and so many sevens
unfoldable pub kept : ℕ → ℕ → List ℕ
kept k n = k ∷ replicate n 7

unfoldable pub cases : List (Case × List ℕ)
cases =
    -- the cycles of the operations at the ends of the four groups; the row at its length and longer
    (conversion (one 0) 15, wrote 1 0)
    ∷ (conversion (one 7) 17, wrote 1 2)
    ∷ (conversion (one 8) 15, wrote 2 0)
    ∷ (conversion (one 11) 15, wrote 2 0)
    ∷ (conversion (one 12) 15, wrote 3 0)
    ∷ (conversion (one 14) 15, wrote 3 0)
    ∷ (conversion (one 15) 16, wrote 8 1)
    -- chains: two records, the later first; all operations
    ∷ (conversion (first 0 0 2 (2 ∷ 15 ∷ 0 ∷ 11 ∷ 1 ∷ [])) 15, wrote 10 0)
    ∷ (conversion (first 0 0 16 (16 ∷ each (λ k. k ∷ k ∷ []) (from 0 16))) 15, wrote 33 0)
    -- two blocks with a record each
    ∷ (
      conversion (two 1 2 0 0) 18,
      0 ∷ 4 ∷ 3 ∷ 9 ∷ 0 ∷ 1 ∷ 0 ∷ 0 ∷ 3 ∷ 2 ∷ 2 ∷ 3 ∷ 3 ∷ 0 ∷ 4 ∷ 0 ∷ 2 ∷ 0 ∷ 7 ∷ [],
    )
    -- the second version
    ∷ (
      conversion (second 0 0 1 (1 ∷ 15 ∷ 0 ∷ [])) 19,
      0 ∷ 0 ∷ 3 ∷ 3 ∷ 2 ∷ 3 ∷ 7 ∷ 0 ∷ 1 ∷ 0 ∷ 0 ∷ 8 ∷ 2 ∷ 3 ∷ 0 ∷ 3 ∷ 3 ∷ 2 ∷ 0 ∷ 7 ∷ [],
    )
    -- 1 and 2, also with the next fault
    ∷ (conversion [] 1, kept 1 1)
    ∷ (conversion (129 ∷ 3 ∷ []) 1, kept 1 1)
    ∷ (conversion (129 ∷ 3 ∷ 7 ∷ []) 1, kept 2 1)
    ∷ (conversion (0 ∷ 3 ∷ 513 ∷ []) 1, kept 2 1)
    -- 3: a row that ends before its budgets, before the number of records, within the records; one word more; also where a budget is above 500
    ∷ (conversion (0 ∷ 3 ∷ 3 ∷ 2 ∷ 7 ∷ []) 1, kept 3 1)
    ∷ (conversion (first 0 0 1 []) 15, kept 3 15)
    ∷ (conversion (first 0 0 1 (1 ∷ 7 ∷ [])) 15, kept 3 15)
    ∷ (conversion (first 0 0 1 (2 ∷ 7 ∷ 0 ∷ [])) 15, kept 3 15)
    ∷ (conversion (first 0 0 1 (1 ∷ 7 ∷ 0 ∷ 0 ∷ [])) 15, kept 3 15)
    ∷ (conversion (behind (3 ∷ 3 ∷ 501 ∷ []) 0 0 1 (1 ∷ 7 ∷ [])) 15, kept 3 15)
    -- 4, also where the budgets fall; 41, also where a target is 1
    ∷ (conversion (behind (3 ∷ 3 ∷ 501 ∷ []) 0 0 1 (1 ∷ 7 ∷ 0 ∷ [])) 15, kept 4 15)
    ∷ (conversion (behind (0 ∷ 3 ∷ 3 ∷ 2 ∷ 501 ∷ 7 ∷ []) 0 0 1 (1 ∷ 7 ∷ 0 ∷ [])) 18, kept 4 18)
    ∷ (conversion (behind (0 ∷ 3 ∷ 3 ∷ 2 ∷ 7 ∷ 7 ∷ []) 0 0 1 (1 ∷ 7 ∷ 0 ∷ [])) 18, kept 41 18)
    ∷ (conversion (set (behind (0 ∷ 3 ∷ 3 ∷ 2 ∷ 7 ∷ 7 ∷ []) 0 0 1 (1 ∷ 7 ∷ 0 ∷ [])) 12 1) 18, kept 41 18)
    -- 6, also where an edge is met twice; 7, also where the exit has a chain; 8, also where an operation is above 15
    ∷ (conversion (set (one 7) 9 1) 15, kept 6 15)
    ∷ (conversion (set (set (one 7) 9 1) 10 1) 15, kept 6 15)
    ∷ (conversion (set (one 7) 10 1) 15, kept 7 15)
    ∷ (conversion (set (one 7) 6 1) 15, kept 7 15)
    ∷ (conversion (3 ∷ 1 ∷ 7 ∷ 0 ∷ 0 ∷ 0 ∷ 1 ∷ 1 ∷ 0 ∷ 2 ∷ 0 ∷ 1 ∷ 7 ∷ 0 ∷ []) 15, kept 8 15)
    ∷ (conversion (3 ∷ 1 ∷ 7 ∷ 0 ∷ 0 ∷ 0 ∷ 1 ∷ 1 ∷ 0 ∷ 2 ∷ 0 ∷ 1 ∷ 16 ∷ 0 ∷ []) 15, kept 8 15)
    -- 42: 4,096 records and one more; an operation above 15, also in no chain
    ∷ (records_are 4096, 0 ∷ [])
    ∷ (records_are 4097, 1 ∷ [])
    ∷ (conversion (one 16) 15, kept 42 15)
    ∷ (conversion (one 65535) 15, kept 42 15)
    ∷ (conversion (first 0 0 1 (2 ∷ 7 ∷ 0 ∷ 16 ∷ 0 ∷ [])) 15, kept 42 15)
    -- a record met twice: by its own chain, by two blocks; a missed one; one out of range as first and as next
    ∷ (conversion (first 0 0 1 (1 ∷ 7 ∷ 1 ∷ [])) 15, kept 42 15)
    ∷ (conversion (two 1 1 2 0) 18, kept 42 18)
    ∷ (conversion (two 1 2 2 0) 18, kept 42 18)
    ∷ (conversion (first 0 0 1 (2 ∷ 7 ∷ 0 ∷ 7 ∷ 0 ∷ [])) 15, kept 42 15)
    ∷ (conversion (first 0 0 2 (1 ∷ 7 ∷ 0 ∷ [])) 15, kept 42 15)
    ∷ (conversion (first 0 0 1 (1 ∷ 7 ∷ 2 ∷ [])) 15, kept 42 15)
    -- block 3 with no operation, with no record at all; blocks 1 and 2 with one; 5 is left out
    ∷ (conversion (two 1 0 2 0) 18, kept 42 18)
    ∷ (conversion (first 0 0 0 (0 ∷ [])) 15, kept 42 15)
    ∷ (conversion (first 1 0 2 (2 ∷ 7 ∷ 0 ∷ 7 ∷ 0 ∷ [])) 15, kept 42 15)
    ∷ (conversion (first 0 1 2 (2 ∷ 7 ∷ 0 ∷ 7 ∷ 0 ∷ [])) 15, kept 42 15)
    -- the least sheet has no operation
    ∷ (conversion (2 ∷ 1 ∷ 0 ∷ 0 ∷ 1 ∷ 0 ∷ 0 ∷ 2 ∷ 0 ∷ 0 ∷ []) 10, 0 ∷ 2 ∷ 1 ∷ 0 ∷ 0 ∷ 1 ∷ 0 ∷ 0 ∷ 2 ∷ 0 ∷ 7 ∷ [])
    -- 22: one word less than the written sheet, in both versions; 42 before it
    ∷ (conversion (one 7) 14, kept 22 14)
    ∷ (conversion (one 7) 0, kept 22 0)
    ∷ (conversion (second 0 0 1 (1 ∷ 15 ∷ 0 ∷ [])) 17, kept 22 17)
    ∷ (conversion (one 16) 14, kept 42 14)
    ∷ []
