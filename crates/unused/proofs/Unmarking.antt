-- The blocks of the copies before i lost their marks; what is left of them decides the whole.
-- Rests on base Lists and Search, formats Limits, specs Marks, Writes.
use mathlib.Core.Path.{◌≡◌, refl, sym, ap, ◌∙◌}
use mathlib.Core.Bool.{Bool, true, false, ◌&&◌, ◌||◌, not}
use mathlib.Core.List.{List, map}
use Prim.Native.Nat.{ℕ, suc, ◌+◌, ◌≤◌, ◌<◌}
use native.Mathlib.Omega.{arith}
use native.Mathlib.Decide.{ℕ_discrete}
use borrow.Author.Tests.{eq-eqb, ne_eqb}
use lib.Dec.{eqb}
use lib.ListN.{length, set, length-set}
use Rattle.base.specs.Lists.{any, member, from}
use Rattle.base.proofs.Search.{upto, upto-one, upto-more, upto-end}
use Rattle.formats.specs.Limits.{most_blocks}
use Rattle.unused.specs.Marks.{marked, Unmarked}
use Rattle.unused.proofs.Writes.{marked-same, marked_other}

-- copies 1 to n, by their blocks
module _ (block : ℕ → ℕ) (n : ℕ) where
  -- marked, and not the block of one of these copies
  abbrev left : List ℕ → ℕ → List ℕ → Bool
  left ms v is = marked ms v && not (member v (map block is))

  -- the loop is at copy i, and the marks were old
  pub record Unmarking (old ms : List ℕ) (i : ℕ) : Type 0 where
    pub size : length ms ≡ most_blocks
    pub least : 1 ≤ i
    pub most : i ≤ n + 1
    pub rest : (v : ℕ) → 1 ≤ v → v ≤ most_blocks → left ms v (upto i n) ≡ (marked old v && not (member v (map block (from 1 n))))

  pub begin : {ms : List ℕ} → length ms ≡ most_blocks → Unmarking ms ms 1
  begin {ms} e = record { size = e; least = omega arith; most = omega arith; rest = λ v l m. ap (left ms v) (upto-one n) }

  -- a block without its mark
  without : (a b c : Bool) → (a && not (b || c)) ≡ ((a && not b) && not c)
  without true true c = refl
  without true false c = refl
  without false b c = refl

  and-true : (a : Bool) → a ≡ (a && true)
  and-true true = refl
  and-true false = refl

  and-false : (a : Bool) → false ≡ (a && false)
  and-false true = refl
  and-false false = refl

  pub onward : {old ms : List ℕ} {i : ℕ} (u : ℕ) → Unmarking old ms i → i ≤ n → suc u ≡ block i → u < most_blocks
      → Unmarking old (set ms u 0) (i + 1)
  unfolding member any
  onward {old} {ms} {i} u F l e r = record {
    size = length-set ms u 0 ∙ F.size;
    least = omega arith;
    most = omega arith;
    rest = λ v p q.
        ap (λ (b : Bool). b && not (member v (map block (upto (i + 1) n)))) (now v p (ℕ_discrete v (suc u)))
        ∙ sym (without (marked ms v) (eqb v (block i)) (member v (map block (upto (i + 1) n))))
        ∙ sym (ap (left ms v) (upto-more i n l))
        ∙ F.rest v p q;
  }
    where
      now : (v : ℕ) → 1 ≤ v → Dec (v ≡ suc u) → marked (set ms u 0) v ≡ (marked ms v && not (eqb v (block i)))
      now v p (yes z) =
          ap (marked (set ms u 0)) z ∙ marked-same ms u 0 (omega (arith, F.size)) ∙ and-false (marked ms v)
          ∙ ap (λ (b : Bool). marked ms v && not b) (sym (eq-eqb v (block i) (z ∙ e)))
      now v p (no d) =
          marked_other ms u 0 v p d ∙ and-true (marked ms v)
          ∙ ap (λ (b : Bool). marked ms v && not b) (sym (ne_eqb v (block i) (λ z. d (z ∙ sym e))))

  pub finish : {old ms : List ℕ} {i : ℕ} → Unmarking old ms i → n < i → Unmarked (map block (from 1 n)) old ms
  unfolding member any
  finish {old} {ms} {i} F l = record {
    is = λ v p q. and-true (marked ms v) ∙ sym (ap (left ms v) (upto-end i n l)) ∙ F.rest v p q;
  }
