-- Bytes were written into a row from a place on: the row then has what it had before the place, the bytes, and what it had behind their end.
-- Rests on nothing.
use Rattle.std.specs.Prelude.{◌≡◌, List, ◌++◌, ℕ, ◌+◌, length, take, drop}

pub record Wrote (old : List ℕ) (at : ℕ) (bytes new : List ℕ) (end : ℕ) : Type 0 where
  pub front : take end new ≡ take at old ++ bytes
  pub is-end : end ≡ at + length bytes
  pub behind : drop end new ≡ drop end old
