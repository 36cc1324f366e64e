-- The marks of the blocks 1 to i are written; one turn writes the next.
-- Rests on formats Limits, specs Marks, Writes.
use mathlib.Core.Path.{◌≡◌, sym, ap, ◌∙◌}
use mathlib.Core.Bool.{Bool, true, false, not}
use mathlib.Core.List.{List}
use Prim.Native.Nat.{ℕ, suc, ◌+◌, ◌≤◌, ◌<◌}
use native.Mathlib.Omega.{arith}
use native.Mathlib.Decide.{ℕ_discrete}
use lib.Dec.{leb, eqb}
use lib.ListN.{length, set, length-set}
use Rattle.std.specs.Int.{from_bool}
use Rattle.formats.specs.Limits.{most_blocks}
use Rattle.unused.specs.Marks.{marked, First}
use Rattle.unused.proofs.Writes.{marked-same, marked_other}

-- a mark as it is written, 1 or 0
pub written : (b : Bool) {x : ℕ} → x ≡ from_bool b → not (eqb x 0) ≡ b
written true e = ap (λ (x : ℕ). not (eqb x 0)) e
written false e = ap (λ (x : ℕ). not (eqb x 0)) e

module _ (n : ℕ) where
  pub record Filling (ms : List ℕ) (i : ℕ) : Type 0 where
    pub size : length ms ≡ most_blocks
    pub most : i ≤ most_blocks
    pub is : (v : ℕ) → 1 ≤ v → v ≤ i → marked ms v ≡ leb v n

  pub begin : {ms : List ℕ} → length ms ≡ most_blocks → Filling ms 0
  begin e = record { size = e; most = omega arith; is = λ v p q. absurd (omega arith) }

  pub onward : {ms : List ℕ} {i : ℕ} (x : ℕ) → Filling ms i → i < most_blocks → not (eqb x 0) ≡ leb (suc i) n → Filling (set ms i x) (i + 1)
  onward {ms} {i} x F l e = record {
    size = length-set ms i x ∙ F.size;
    most = omega arith;
    is = λ v p q. go v p q (ℕ_discrete v (suc i));
  }
    where
      go : (v : ℕ) → 1 ≤ v → v ≤ i + 1 → Dec (v ≡ suc i) → marked (set ms i x) v ≡ leb v n
      go v p q (yes z) =
          ap (marked (set ms i x)) z ∙ marked-same ms i x (omega (arith, F.size)) ∙ e ∙ ap (λ (u : ℕ). leb u n) (sym z)
      go v p q (no d) = marked_other ms i x v p d ∙ F.is v p (omega arith)

  pub finish : {ms : List ℕ} {i : ℕ} → Filling ms i → most_blocks ≤ i → First n ms
  finish F l = record { is = λ v p q. F.is v p (omega arith) }
