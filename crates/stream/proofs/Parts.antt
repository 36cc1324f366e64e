-- One part more behind the first k.
-- Rests on base Lists.
use mathlib.Core.Path.{◌≡◌, sym, ap, ◌∙◌}
use mathlib.Core.List.{List, ◌++◌, append_assoc, append-nil}
use Prim.Native.Nat.{ℕ, zero, suc, ◌+◌}
use native.Mathlib.Omega.{arith}
use Rattle.base.specs.Lists.{each, from}

each_next : (f : ℕ → List ℕ) (k a : ℕ) → each f (from a k) ++ f (a + k) ≡ each f (from a (suc k))
unfolding each from
each_next f zero a = let e : a + 0 ≡ a = omega arith in ap f e ∙ sym (append-nil (f a))
each_next f (suc k) a =
    let e : a + suc k ≡ suc a + k = omega arith in
    append_assoc (f a) (each f (from (suc a) k)) (f (a + suc k))
    ∙ ap (λ (w : List ℕ). f a ++ w) (ap (λ (n : ℕ). each f (from (suc a) k) ++ f n) e ∙ each_next f k (suc a))

pub parts_next : (f : ℕ → List ℕ) (k : ℕ) → each f (from 0 k) ++ f k ≡ each f (from 0 (k + 1))
parts_next f k =
    let z : 0 + k ≡ k = omega arith in
    let s : suc k ≡ k + 1 = omega arith in
    ap (λ (n : ℕ). each f (from 0 k) ++ f n) (sym z) ∙ each_next f k 0 ∙ ap (λ (n : ℕ). each f (from 0 n)) s
