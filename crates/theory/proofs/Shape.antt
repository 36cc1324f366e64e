-- No walk from an entry gets out of shape: neither the monitor's nor that on a bounded graph which lays the copies out.
-- Rests on Counts, Reach, Agreement.
use mathlib.Core.Path.{◌≡◌, refl, sym, ap, subst, ◌∙◌}
use mathlib.Core.Bool.{Bool, true, false}
use mathlib.Core.List.{List}
use mathlib.Core.Option.{Option, some, none, map, none-ne-some, some-injective}
use Prim.Native.Nat.{ℕ, zero, suc, ◌-◌, ◌≤◌}
use native.Mathlib.Omega.{arith}
use lib.Dec.{eqb}
use Rattle.base.specs.Lists.{chosen}
use Rattle.theory.specs.Completions.{Graph, fits}
use Rattle.base.specs.Copy.{Copy}
use Rattle.theory.specs.Copies.{targets, target_number}
use Rattle.theory.specs.Machines.{End, going, exit, diverted}
use Rattle.theory.specs.Walks.{Walk, start_at, starting, end_at, most_moves, is_exit, InShape, monitor, monitor_take, CopyWalk, entered}
use Rattle.theory.specs.Walks.{copy_take, Bounded, bounded_take, bounded_walk}
use Rattle.theory.specs.Setting.{Setting, Entry, copies, start_copy, entry_place, LaysOut}
use Rattle.base.proofs.Lists.{chosen-map, chosen-mem, chosen-le}
use Rattle.theory.proofs.Completions.{fits-e, covers}
use Rattle.theory.proofs.Counts.{Timely, timely-take, timely-start}
use Rattle.theory.proofs.Reach.{two, start-in}
use Rattle.theory.proofs.Agreement.{Sits, set_out, sits-take, sits-start, same_end, within-most}

-- the most moves are at most one more than the budget
pub most-fits : (b : ℕ) (e : End) → most_moves b e ≤ suc b
unfolding most_moves
most-fits b going = omega arith
most-fits b exit = omega arith
most-fits b diverted = omega arith

-- a place that is entered is in shape
entered-shape : (x p : ℕ) → is_exit (end_at x p) ≡ eqb p x
unfolding is_exit end_at
entered-shape x p = go (eqb p x) refl
  where
    go : (b : Bool) → eqb p x ≡ b → is_exit (end_at x p) ≡ eqb p x
    go true e = rw (e, end_at)
    go false e = rw (e, end_at)

pub ended-take : (x : ℕ) (s : Walk) → s.end ≡ going → is_exit s.end ≡ eqb s.place x → (t : ℕ)
    → is_exit (bounded_take x s t).end ≡ eqb (bounded_take x s t).place x
unfolding bounded_take is_exit
ended-take x s e h zero = sym (ap is_exit e) ∙ h
ended-take x s e h (suc t) = entered-shape x (suc t)

-- THE MONITOR
module _ (S : Setting) (b : ℕ) where
  abbrev g : Graph
  g = S.task.graph

  pub monitor-kept : (s : Walk) → InShape S.task.blocks 2 b s → (monitor g b).stands s ≡ going → (k t : ℕ)
      → chosen ((monitor g b).targets s) k ≡ some t
      → InShape S.task.blocks 2 b ((monitor g b).take s t)
  unfolding monitor monitor_take is_exit
  monitor-kept s h e k t q = go (fits g b s.count t) refl
    where
      go : (f : Bool) → fits g b s.count t ≡ f → InShape S.task.blocks 2 b (monitor_take g b s t (fits g b s.count t))
      go false p = rw p (record { place = h.place; ended = sym (ap is_exit e) ∙ h.ended; count = h.count })
      go true p =
          let v = fits-e g S.laws b s.count t p in
          let c = covers g S.laws v.1 in
          let m = chosen-mem (g.next s.place) k t q in
          rw p (record {
            place = omega (arith, S.laws.above s.place t m, S.inside s.place t m);
            ended = entered-shape 2 t;
            count = omega (arith, v.2);
          })

  pub monitor-start : InShape S.task.blocks 2 b starting
  unfolding start_at is_exit
  monitor-start = record { place = omega (arith, two S); ended = refl; count = omega arith }

-- THE BOUNDED WALK, which stands where a walk over copies is
module _ (S : Setting) (m : Bounded) (Y : LaysOut S m) (E : Entry S) where
  pub record Held (s : Walk) : Type 0 where
    pub on : CopyWalk
    pub sits : Sits S m Y on s
    pub time : Timely S.task.graph S.laws E.budget on
    pub ended : is_exit s.end ≡ eqb s.place m.last

  pub held-shape : (s : Walk) → Held s → InShape m.size m.last (most_moves E.budget s.end) s
  held-shape s h =
      let p = chosen-le (copies S) s.place h.on.copy h.sits.place in
      record {
        place = (p.0, omega (arith, p.1, Y.size));
        ended = h.ended;
        count = omega (arith, h.sits.count, within-most S.task.graph S.laws E.budget h.on h.time s.end h.sits.end);
      }

  pub held_kept : (s : Walk) → Held s → (bounded_walk m).stands s ≡ going → (k x : ℕ) → chosen ((bounded_walk m).targets s) k ≡ some x
      → Held ((bounded_walk m).take s x)
  unfolding bounded_walk
  held_kept s h e k x q =
      go (chosen (targets S.task.graph h.on.copy) k) refl
      (sym (chosen-map (target_number (copies S)) (targets S.task.graph h.on.copy) k)
      ∙ sym (ap (λ (l : List ℕ). chosen l k) (Y.next s.place h.on.copy h.sits.place)) ∙ q)
    where
      go : (o : Option (Option Copy)) → chosen (targets S.task.graph h.on.copy) k ≡ o → map (target_number (copies S)) o ≡ some x
          → Held (bounded_take m.last s x)
      go none p r = absurd (none-ne-some x r)
      go (some o) p r =
          subst (λ (y : ℕ). Held (bounded_take m.last s y)) (some-injective _ x r)
          (record {
            on = copy_take h.on o;
            sits = sits-take S m Y h.on s h.sits o (chosen-mem (targets S.task.graph h.on.copy) k o p);
            time = timely-take S.task.graph S.laws E.budget h.on h.time (h.sits.end ∙ e) k o p;
            ended = ended-take m.last s e h.ended (target_number (copies S) o);
          })

  pub held_start : Held (start_at (entry_place S E))
  unfolding start_at is_exit end_at entered
  held_start =
      let sits = sits-start S m Y E in
      record {
        on = set_out S m Y E;
        sits = sits;
        time = timely-start S.task.graph S.laws E.budget E.low E.fits;
        ended =
            ap is_exit (same_end S m Y (start_copy S E) (entry_place S E) (start-in S E) sits.place)
            ∙ entered-shape m.last (entry_place S E);
      }
