-- A row of marks, a byte for each block, and the blocks that it names.
-- Rests on base Lists, formats Limits and Words.
use Rattle.std.specs.Prelude.{◌≡◌, Bool, ◌&&◌, not, List, map, ℕ, ◌+◌, ◌-◌, ◌*◌, ◌≤◌, leb, eqb, length, get_or}
use Rattle.base.specs.Lists.{keep, from, member}
use Rattle.formats.specs.Limits.{most_blocks}
use Rattle.formats.specs.Words.{field}

-- a byte for each
abbrev pub Marks : Type 0
Marks = List ℕ

-- a block's mark
unfoldable pub marked : Marks → ℕ → Bool
marked ms v = not (eqb (get_or ms (v - 1) 0) 0)

-- the marked blocks, rising
unfoldable pub marked_blocks : Marks → List ℕ
marked_blocks ms = keep (marked ms) (from 1 most_blocks)

-- the blocks 1 to n are marked, and no other
pub record First (n : ℕ) (ms : Marks) : Type 0 where
  pub is : (v : ℕ) → 1 ≤ v → v ≤ most_blocks → marked ms v ≡ leb v n

-- some blocks lost their marks, and no other
pub record Unmarked (bs : List ℕ) (old new : Marks) : Type 0 where
  pub is : (v : ℕ) → 1 ≤ v → v ≤ most_blocks → marked new v ≡ (marked old v && not (member v bs))

-- the blocks of c copies, whose records stand from the word `at` on
abbrev pub blocks_at : List ℕ → ℕ → ℕ → List ℕ
blocks_at t at c = map (λ i. field t at 3 i 0) (from 1 c)

-- the records are there, and their blocks have marks
pub record Blocks (t : List ℕ) (at c : ℕ) : Type 0 where
  pub size : at + 3 * c ≤ length t
  pub inside : (i : ℕ) → 1 ≤ i → i ≤ c → (1 ≤ field t at 3 i 0) × (field t at 3 i 0 ≤ most_blocks)
