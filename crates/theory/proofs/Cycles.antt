-- The monitor counts the cycles of the blocks that it enters.
-- Rests on specs Machines and Walks.
use mathlib.Core.Path.{◌≡◌, refl, ◌∙◌}
use mathlib.Core.Bool.{Bool, true, false}
use mathlib.Core.List.{List, [], ◌∷◌}
use mathlib.Core.Option.{Option, some, none}
use Prim.Native.Nat.{ℕ, ◌+◌}
use native.Mathlib.Omega.{arith}
use lib.Dec.{eqb}
use Rattle.base.specs.Lists.{chosen}
use Rattle.theory.specs.Completions.{Graph, fits}
use Rattle.theory.specs.Machines.{End, going, exit, diverted, Reply, taken, reply_at, reply, step_cycles, final, cycles}
use Rattle.theory.specs.Walks.{Walk, end_at, monitor_take, monitor}

-- a block that is entered is paid, whether it is the exit or not
entered-paid : (cost : ℕ → ℕ) (t : ℕ) → step_cycles cost 0 (end_at 2 t) t ≡ cost t
unfolding step_cycles end_at
entered-paid cost t = go (eqb t 2)
  where
    go : (b : Bool) → step_cycles cost 0 (elim b [ true ↦ exit | false ↦ going ]) t ≡ cost t
    go true = refl
    go false = refl

module _ (g : Graph) (b : ℕ) where
  abbrev paid : Reply Walk → ℕ
  paid r = step_cycles g.cost r.answer r.after.end r.after.place

  -- one step
  one_more : (s : Walk) (k : ℕ) → (reply (monitor g b) s k).after.count ≡ s.count + paid (reply (monitor g b) s k)
  unfolding reply reply_at taken monitor monitor_take step_cycles
  one_more s k = go s.end
    where
      fit : (t : ℕ) (f : Bool) → (monitor_take g b s t f).count ≡ s.count + step_cycles g.cost 0 (monitor_take g b s t f).end (monitor_take g b s t f).place
      fit t true = omega (arith, entered-paid g.cost t)
      fit t false = omega arith

      pair : (o : Option ℕ) → (taken (monitor g b) s o).after.count ≡ s.count + paid (taken (monitor g b) s o)
      pair none = omega arith
      pair (some t) = fit t (fits g b s.count t)

      go : (e : End) → (reply_at (monitor g b) e s k).after.count ≡ s.count + paid (reply_at (monitor g b) e s k)
      go going = pair (chosen (g.next s.place) k)
      go exit = omega arith
      go diverted = omega arith

  pub monitor-cycles : (ks : List ℕ) (s : Walk)
      → (final (reply (monitor g b)) s ks).count ≡ s.count + cycles (reply (monitor g b)) g.cost (λ s. s.place) (λ s. s.end) s ks
  unfolding final cycles
  monitor-cycles [] s = omega arith
  monitor-cycles (k ∷ ks) s = omega (arith, monitor-cycles ks (reply (monitor g b) s k).after, one_more s k)
