-- The candidates, and so the copies of a setting, rise by block and then low.
-- Rests on base Lists and Copies.
use mathlib.Core.Path.{◌≡◌, sym, ap}
use mathlib.Core.Logic.{inl}
use mathlib.Core.List.Memᴰ
use mathlib.Core.List.{List, map, Memᴰ}
use Prim.Native.Nat.{ℕ, zero, suc}
use native.Mathlib.Omega.{arith}
use Rattle.base.specs.Lists.{each, from}
use Rattle.base.specs.Copy.{Copy, copy_of}
use Rattle.base.proofs.Lists.{each-e, from-e}
use Rattle.base.proofs.Copies.{before-i, Rising, rising-append, rising-keep, rising-row}
use Rattle.theory.specs.Completions.{Graph}
use Rattle.theory.specs.Copies.{candidates, copies_from}

-- the copies of one block, as candidates
line : ℕ → ℕ → List Copy
line b v = map (copy_of v) (from 0 (suc b))

line-block : (b v : ℕ) (x : Copy) → Memᴰ x (line b v) → x.block ≡ v
unfolding line
line-block b v x m = let r = Memᴰ.of_map (copy_of v) (from 0 (suc b)) m in sym (ap (λ (c : Copy). c.block) r.2)

rising-rows : (b k v : ℕ) → Rising (each (line b) (from v k))
unfolding Rising each from line
rising-rows b zero v = tt
rising-rows b (suc k) v =
    rising-append (line b v) (each (line b) (from (suc v) k)) (rising-row v (suc b) 0) (rising-rows b k (suc v)) (λ x y m n.
    let r = each-e (line b) (from (suc v) k) n in
    before-i x y (inl (omega (arith, line-block b v x m, line-block b r.0 y r.2, from-e k (suc v) r.0 r.1))))

pub candidates-rise : (n b : ℕ) → Rising (candidates n b)
unfolding candidates line
candidates-rise n b = rising-rows b n 1

pub copies-rise : (g : Graph) (n b : ℕ) (ss : List Copy) → Rising (copies_from g n b ss)
unfolding copies_from
copies-rise g n b ss = rising-keep _ (candidates n b) (candidates-rise n b)
