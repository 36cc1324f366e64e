-- What is kept of an input: as many of its first bytes as a row has room for, and whether it has an odd number of them.
-- Rests on formats File.
use Rattle.std.specs.Prelude.{◌≡◌, Bool, false, List, ℕ, ◌≤◌, length, take}
use Rattle.formats.specs.File.{odd_bytes}
use Rattle.kept.specs.declared.Kept.{Kept}

-- a count of bytes and a parity
pub record Holding : Type 0 where
  pub count : ℕ
  pub odd : Bool

abbrev pub holding : ℕ → Bool → Holding
holding n o = record { count = n; odd = o }

-- those of an input from which nothing came yet
abbrev pub none : Holding
none = holding 0 false

abbrev pub held_as : Kept → Holding
held_as s = holding s.count s.odd

-- the bytes xs came, and the row has their first
pub record Held (xs row : List ℕ) (s : Holding) : Type 0 where
  pub room : s.count ≤ length row
  pub bytes : take s.count row ≡ take (length row) xs
  pub odd : s.odd ≡ odd_bytes xs
