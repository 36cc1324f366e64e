-- The monitor and the walk over copies: the same answers, blocks and ends, from a start copy at its budget.
-- Rests on Completions, Runs.
use mathlib.Core.Path.{◌≡◌, refl}
use mathlib.Core.List.{List, Memᴰ}
use mathlib.Core.Option.{Option, some, none, map}
use Prim.Native.Nat.{ℕ, ◌+◌, ◌-◌, ◌≤◌}
use native.Mathlib.Omega.{arith}
use Rattle.base.specs.Lists.{chosen}
use Rattle.theory.specs.Completions.{Graph, low_of}
use Rattle.base.specs.Copy.{Copy, copy_of}
use Rattle.theory.specs.Copies.{targets, copy_for}
use Rattle.theory.specs.Machines.{reply, answers, final}
use Rattle.theory.specs.Walks.{Walk, start_at, starting, end_at, monitor, monitor_take, CopyWalk, entered, copy_take, copy_walk}
use Rattle.theory.specs.Setting.{WellFormed}
use Rattle.base.proofs.Lists.{chosen-map, chosen-mem}
use Rattle.theory.proofs.Completions.{low-some, fits-some, fits-none, covers, same_low}
use Rattle.theory.proofs.Runs.{Alike, neither, both, Keeps, agree-all}

module _ (g : Graph) (L : WellFormed g) (b : ℕ) where
  -- the copy serves the cycles left before the block is paid
  pub record Follows (s : Walk) (u : CopyWalk) : Type 0 where
    pub block : u.copy.block ≡ s.place
    pub end : s.end ≡ u.end
    pub count : s.count ≤ b
    pub low : low_of g s.place (g.cost s.place + (b - s.count)) ≡ some u.copy.low

  -- a copy's targets are those of its block, each served by what the copy's low leaves
  targets_of : (u : Copy) (v : ℕ) → u.block ≡ v → (k : ℕ)
      → chosen (targets g u) k ≡ map (copy_for g (u.low - g.cost v)) (chosen (g.next v) k)
  unfolding targets
  targets_of u v e k = rw (e) (chosen-map (copy_for g (u.low - g.cost v)) (g.next v) k)

  -- the monitor enters a target exactly where the copy's edge is not diverted
  follows-take : (s : Walk) (u : CopyWalk) → Follows s u → (t : ℕ) → Memᴰ t (g.next s.place)
      → Follows ((monitor g b).take s t) ((copy_walk g).take u (copy_for g (u.copy.low - g.cost s.place) t))
  unfolding monitor copy_walk monitor_take copy_take copy_for entered
  follows-take s u h t m = go (low_of g t (b - s.count)) refl
    where
      same : low_of g t (u.copy.low - g.cost s.place) ≡ low_of g t (b - s.count)
      same =
          let q : g.cost s.place + (b - s.count) - g.cost s.place ≡ b - s.count = omega arith in
          rw (← q) (same_low g L s.place t (g.cost s.place + (b - s.count)) u.copy.low m h.low)

      go : (o : Option ℕ) → low_of g t (b - s.count) ≡ o
          → Follows ((monitor g b).take s t) ((copy_walk g).take u (copy_for g (u.copy.low - g.cost s.place) t))
      go none e =
          rw (same, e, fits-none g L b s.count t e) (record { block = h.block; end = refl; count = h.count; low = h.low })
      go (some a) e =
          let w = low-some g L t (b - s.count) a e in
          let c : g.cost t ≤ a = covers g L w.cost in
          let q : g.cost t + (b - (s.count + g.cost t)) ≡ b - s.count = omega (arith, w.below, h.count) in
          rw (same, e, fits-some g L b s.count t a h.count e)
          (record { block = refl; end = refl; count = omega (arith, w.below, h.count); low = rw q e })

  follows-move : (s : Walk) (u : CopyWalk) → Follows s u → (k : ℕ)
      → Alike (monitor g b) (copy_walk g) Follows s u (chosen (g.next s.place) k) (chosen (targets g u.copy) k)
  follows-move s u h k = rw (targets_of u.copy s.place h.block k) (go (chosen (g.next s.place) k) refl)
    where
      go : (o : Option ℕ) → chosen (g.next s.place) k ≡ o
          → Alike (monitor g b) (copy_walk g) Follows s u o (map (copy_for g (u.copy.low - g.cost s.place)) o)
      go none e = neither
      go (some t) e = both (follows-take s u h t (chosen-mem (g.next s.place) k t e))

  pub follows-keeps : Keeps (monitor g b) (copy_walk g) Follows
  unfolding monitor copy_walk
  follows-keeps = record { stand = λ s u h. h.end; move = λ s u h going k. follows-move s u h k }

  -- the monitor and the walk over copies answer alike over any list of choices, and show the same block and end
  pub follows-all : (ks : List ℕ) (s : Walk) (u : CopyWalk) → Follows s u
      → (answers (reply (monitor g b)) s ks ≡ answers (reply (copy_walk g)) u ks)
      × Follows (final (reply (monitor g b)) s ks) (final (reply (copy_walk g)) u ks)
  follows-all ks s u h = agree-all (monitor g b) (copy_walk g) Follows follows-keeps ks s u h

  -- from a start copy
  pub follows-start : (a : ℕ) → low_of g 1 b ≡ some a → Follows starting (entered (copy_of 1 a) 0)
  unfolding start_at entered end_at
  follows-start a e =
      let q : g.cost 1 + (b - 0) ≡ b = omega (arith, L.free) in
      record { block = refl; end = refl; count = omega arith; low = rw q e }
