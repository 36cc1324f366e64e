-- What a fault's number stands for.
-- Rests on text_form Reading, specs Faults.
use mathlib.Core.Path.{◌≡◌, refl, ap}
use Prim.Native.Nat.{ℕ}
use Rattle.text_form.specs.Reading.{other, large, many, nothing}
use Rattle.fault_line.specs.Faults.{what_of}

pub what-other : {x b : ℕ} → x ≡ b → what_of 1 x ≡ other b
unfolding what_of
what-other e = ap other e

pub what-large : (x : ℕ) → what_of 2 x ≡ large x
unfolding what_of
what-large x = refl

pub what-many : (x : ℕ) → what_of 3 x ≡ many
unfolding what_of
what-many x = refl

pub what-nothing : (x : ℕ) → what_of 4 x ≡ nothing
unfolding what_of
what-nothing x = refl
