-- A bounded graph that lays a setting's copies out moves as the monitor does, from every entry: demand 3 without words.
-- Rests on Simulation, Counts, Cycles, Paths, Reach, Order.
use mathlib.Core.Path.{◌≡◌, refl, sym, ap, ◌∙◌}
use mathlib.Core.Logic.{⊎_elim}
use mathlib.Core.Bool.{Bool, true, false}
use mathlib.Core.List.{List, [], ◌∷◌, Memᴰ}
use mathlib.Core.Option.{Option, some, none, map, some-injective}
use Prim.Native.Nat.{ℕ, zero, suc, ◌+◌, ◌≤◌}
use native.Mathlib.Omega.{arith}
use native.Mathlib.Decide.{ℕ_discrete}
use native.Mathlib.Nat.{zero-add}
use borrow.Author.Tests.{eq-eqb, ne_eqb}
use lib.Dec.{eqb}
use Rattle.base.specs.Lists.{chosen}
use Rattle.theory.specs.Completions.{Graph}
use Rattle.base.specs.Copy.{Copy, copy_of}
use Rattle.theory.specs.Copies.{targets, target_number}
use Rattle.theory.specs.Machines.{End, going, exit, diverted, taken, reply_at, reply, answers, final, shown, cycles, zeros, Unchanged}
use Rattle.theory.specs.Walks.{Walk, start_at, starting, end_at, most_moves, monitor, CopyWalk, entered, copy_take, copy_walk}
use Rattle.theory.specs.Walks.{Bounded, bounded_take, bounded_walk}
use Rattle.theory.specs.Setting.{WellFormed, Setting, Entry, starts, copies, exit_copy, start_copy, entry_place, LaysOut, Agrees}
use Rattle.theory.specs.Setting.{PathsKept}
use Rattle.base.proofs.Lists.{chosen-map, chosen-mem, chosen-le, chosen-some, Distinct, one_place}
use Rattle.theory.proofs.Completions.{low-some, covers}
use Rattle.theory.proofs.Runs.{Alike, neither, both, Keeps, agree, agree-all, shown-all, cycles-all}
use Rattle.theory.proofs.Cycles.{monitor-cycles}
use Rattle.theory.proofs.Simulation.{follows-keeps, follows-all, follows-start}
use Rattle.theory.proofs.Counts.{Timely, timely-start, timely-all, early, never_stuck}
use Rattle.theory.proofs.Paths.{path-completion, runs, only}
use Rattle.theory.proofs.Reach.{targets-in, copy-sound, start-in, exit-only}
use Rattle.base.proofs.Copies.{before-cases, rising-chosen, rising-distinct, number-place, number-chosen}
use Rattle.theory.proofs.Order.{copies-rise}

end_at-same : (x y p q : ℕ) → eqb p x ≡ eqb q y → end_at x p ≡ end_at y q
unfolding end_at
end_at-same x y p q e = ap (λ (b : Bool). elim b [ true ↦ exit | false ↦ going ]) e

pub count-take : (x : ℕ) (s : Walk) (t : ℕ) → (bounded_take x s t).count ≡ suc s.count
unfolding bounded_take
count-take x s zero = refl
count-take x s (suc t) = refl

-- the count of a bounded walk is the number of its answers 0
module _ (m : Bounded) where
  one_more : (s : Walk) (k : ℕ) (rest : List ℕ)
      → (reply (bounded_walk m) s k).after.count + zeros rest ≡ s.count + zeros ((reply (bounded_walk m) s k).answer ∷ rest)
  unfolding reply reply_at bounded_walk taken zeros
  one_more s k rest = go s.end
    where
      pair : (o : Option ℕ)
          → (taken (bounded_walk m) s o).after.count + zeros rest ≡ s.count + zeros ((taken (bounded_walk m) s o).answer ∷ rest)
      pair none = refl
      pair (some x) = omega (arith, count-take m.last s x)

      go : (e : End)
          → (reply_at (bounded_walk m) e s k).after.count + zeros rest ≡ s.count + zeros ((reply_at (bounded_walk m) e s k).answer ∷ rest)
      go going = pair (chosen (m.next s.place) k)
      go exit = refl
      go diverted = refl

  pub counted : (ks : List ℕ) (s : Walk)
      → (final (reply (bounded_walk m)) s ks).count ≡ s.count + zeros (answers (reply (bounded_walk m)) s ks)
  unfolding final answers zeros
  counted [] s = omega arith
  counted (k ∷ ks) s =
      counted ks (reply (bounded_walk m) s k).after ∙ one_more s k (answers (reply (bounded_walk m)) (reply (bounded_walk m) s k).after ks)

-- the first copy is one of block 1
pub first-copy : (S : Setting) → (d : Copy) × (chosen (copies S) 1 ≡ some d) × (d.block ≡ 1)
first-copy S =
    let E : Entry S = record { budget = S.task.largest; named = S.named; low = S.start; fits = S.opens } in
    let c = number-place (start_copy S E) (copies S) (start-in S E) in
    let f = chosen-some (copies S) 1 (omega arith) (omega (arith, chosen-le (copies S) (suc c.0) _ c.2)) in
    (f.0, f.1, go c.0 c.2 f.0 f.1)
  where
    go : (i : ℕ) → chosen (copies S) (suc i) ≡ some (copy_of 1 S.start) → (d : Copy) → chosen (copies S) 1 ≡ some d → d.block ≡ 1
    go zero q d p = ap (λ (c : Copy). c.block) (some-injective d _ (sym p ∙ q))
    go (suc i) q d p =
        let b = rising-chosen (copies S) (copies-rise S.task.graph S.task.blocks S.task.largest (starts S)) 1 (suc (suc i)) d _
        (omega arith) p q in
        let l : 1 ≤ d.block = (copy-sound S d (chosen-mem (copies S) 1 d p)).1.place.0 in
        ⊎_elim (λ x. omega arith) (λ x. x.0) (before-cases d (copy_of 1 S.start) b)

-- a walk over copies that has made at most b moves while going, b + 1 in all
pub within-most : (g : Graph) (L : WellFormed g) (b : ℕ) (u : CopyWalk) → Timely g L b u → (e : End) → u.end ≡ e → u.moves ≤ most_moves b e
unfolding most_moves
within-most g L b u h going e = early g L b u h e
within-most g L b u h exit e = h.total
within-most g L b u h diverted e = h.total

module _ (S : Setting) (m : Bounded) (Y : LaysOut S m) where
  abbrev g : Graph
  g = S.task.graph

  abbrev cs : List Copy
  cs = copies S

  -- the bounded walk stands at the place of the copy that the walk over copies is at
  pub record Sits (u : CopyWalk) (s : Walk) : Type 0 where
    pub place : chosen cs s.place ≡ some u.copy
    pub count : s.count ≡ u.moves
    pub end : u.end ≡ s.end

  -- a copy ends the walk exactly where its place does
  pub same_end : (d : Copy) (p : ℕ) → Memᴰ d cs → chosen cs p ≡ some d → end_at 2 d.block ≡ end_at m.last p
  same_end d p i q = end_at-same 2 m.last d.block p (go (ℕ_discrete d.block 2))
    where
      distinct : Distinct cs
      distinct = rising-distinct cs (copies-rise g S.task.blocks S.task.largest (starts S))

      at_last : p ≡ m.last → d.block ≡ 2
      at_last e = ap (λ (c : Copy). c.block) (some-injective d (exit_copy S) (sym q ∙ ap (chosen cs) e ∙ Y.last))

      go : Dec (d.block ≡ 2) → eqb d.block 2 ≡ eqb p m.last
      go (yes e) =
          let z : p ≡ m.last = one_place cs distinct p m.last (exit_copy S) (q ∙ ap some (exit-only S d i e)) Y.last in
          eq-eqb d.block 2 e ∙ sym (eq-eqb p m.last z)
      go (no e) = ne_eqb d.block 2 e ∙ sym (ne_eqb p m.last (λ z. e (at_last z)))

  pub sits-take : (u : CopyWalk) (s : Walk) → Sits u s → (x : Option Copy) → Memᴰ x (targets g u.copy)
      → Sits (copy_take u x) (bounded_take m.last s (target_number cs x))
  unfolding copy_take entered bounded_take target_number
  sits-take u s h none i = record { place = h.place; count = ap suc h.count; end = refl }
  sits-take u s h (some d) i =
      let k = targets-in S u.copy d (chosen-mem cs s.place u.copy h.place) i in
      let r = number-place d cs k in
      rw r.1 (record { place = r.2; count = ap suc h.count; end = same_end d (suc r.0) k r.2 })

  pub sits-keeps : Keeps (copy_walk g) (bounded_walk m) Sits
  unfolding copy_walk bounded_walk
  sits-keeps = record { stand = λ u s h. h.end; move = λ u s h e k. move u s h k }
    where
      move : (u : CopyWalk) (s : Walk) → Sits u s → (k : ℕ)
          → Alike (copy_walk g) (bounded_walk m) Sits u s (chosen (targets g u.copy) k) (chosen (m.next s.place) k)
      move u s h k =
          let go : (o : Option (Option Copy)) → chosen (targets g u.copy) k ≡ o
          → Alike (copy_walk g) (bounded_walk m) Sits u s o (map (target_number cs) o)
          = λ o. elim o as (λ (o : Option (Option Copy)). chosen (targets g u.copy) k ≡ o
          → Alike (copy_walk g) (bounded_walk m) Sits u s o (map (target_number cs) o)) [ none ↦ λ e. neither | some x ↦ λ e. both (sits-take u s h x (chosen-mem (targets g u.copy) k x e)) ] in
          rw (Y.next s.place u.copy h.place, chosen-map (target_number cs) (targets g u.copy) k)
          (go (chosen (targets g u.copy) k) refl)

  -- FROM AN ENTRY
  module _ (E : Entry S) where
    abbrev pub set_out : CopyWalk
    set_out = entered (start_copy S E) 0

    pub sits-start : Sits set_out (start_at (entry_place S E))
    unfolding start_at entered end_at
    sits-start = record { place = number-chosen (start_copy S E) cs (start-in S E); count = refl; end = refl }

    pub sits-all : (ks : List ℕ) → (answers (reply (copy_walk g)) set_out ks ≡ answers (reply (bounded_walk m)) (start_at (entry_place S E)) ks)
        × Sits (final (reply (copy_walk g)) set_out ks) (final (reply (bounded_walk m)) (start_at (entry_place S E)) ks)
    sits-all ks = agree-all (copy_walk g) (bounded_walk m) Sits sits-keeps ks set_out (start_at (entry_place S E)) sits-start

    pub sits-shown : (ks : List ℕ)
        → shown (reply (copy_walk g)) (λ u. u.copy.block) set_out ks
        ≡ shown (reply (bounded_walk m)) (λ s. m.block s.place) (start_at (entry_place S E)) ks
    sits-shown ks =
        shown-all (copy_walk g) (bounded_walk m) Sits sits-keeps (λ u. u.copy.block) (λ s. m.block s.place)
        (λ u s h. sym (Y.block s.place u.copy h.place)) ks set_out (start_at (entry_place S E)) sits-start

    -- the three enter the same blocks
    sits-cycles : (ks : List ℕ)
        → cycles (reply (bounded_walk m)) g.cost (λ s. m.block s.place) (λ s. s.end) (start_at (entry_place S E)) ks
        ≡ (final (reply (monitor g E.budget)) starting ks).count
    unfolding start_at bounded_walk copy_walk monitor
    sits-cycles ks =
        sym (cycles-all (copy_walk g) (bounded_walk m) Sits sits-keeps (λ u. u.copy.block) (λ s. m.block s.place)
        (λ u s h. sym (Y.block s.place u.copy h.place)) g.cost ks set_out (start_at (entry_place S E)) sits-start)
        ∙ sym (cycles-all (monitor g E.budget) (copy_walk g) _ (follows-keeps g S.laws E.budget) (λ s. s.place) (λ u. u.copy.block)
        (λ s u h. sym h.block) g.cost ks starting set_out (follows-start g S.laws E.budget E.low E.fits))
        ∙ sym (monitor-cycles g E.budget ks starting ∙ zero-add _)

    pub timely : (ks : List ℕ) → Timely g S.laws E.budget (final (reply (copy_walk g)) set_out ks)
    timely ks = timely-all g S.laws E.budget ks set_out (timely-start g S.laws E.budget E.low E.fits)

    pub agrees : (ks : List ℕ) → Agrees S m E.budget starting (start_at (entry_place S E)) ks
    unfolding start_at
    agrees ks =
        let f = follows-all g S.laws E.budget ks starting set_out (follows-start g S.laws E.budget E.low E.fits) in
        let s = sits-all ks in
        let t = timely ks in
        record {
          answer = sym (f.0 ∙ s.0);
          block = Y.block _ _ s.1.place ∙ f.1.block;
          end = sym s.1.end ∙ sym f.1.end;
          count = f.1.count;
          spent = sits-cycles ks;
          moves = counted m ks (start_at (entry_place S E)) ∙ zero-add _;
          most = omega (arith, s.1.count, within-most g S.laws E.budget _ t _ s.1.end);
          monitor-onward = λ e. (agree (monitor g E.budget) (copy_walk g) _ (follows-keeps g S.laws E.budget) _ _ f.1 1).answer
              ∙ never_stuck g S.laws E.budget _ t (sym f.1.end ∙ e);
          bounded-onward = λ e. sym (agree (copy_walk g) (bounded_walk m) Sits sits-keeps _ _ s.1 1).answer
              ∙ never_stuck g S.laws E.budget _ t (s.1.end ∙ e);
        }

    pub paths-kept : PathsKept S m E.budget (start_at (entry_place S E))
    unfolding PathsKept
    paths-kept ks bs c r = (there, back)
      where
        there : c ≤ E.budget → Unchanged (reply (bounded_walk m)) (λ s. m.block s.place) (λ s. s.end) (start_at (entry_place S E)) ks bs
        there l =
            let w = low-some g S.laws 1 E.budget E.low E.fits in
            let x = runs g S.laws r E.low 0 (w.most c (path-completion r) l) in
            let s = sits-all ks in
            record { answer = sym s.0 ∙ x.answer; blocks = sym (sits-shown ks) ∙ x.blocks; end = sym s.1.end ∙ x.end }

        back : Unchanged (reply (bounded_walk m)) (λ s. m.block s.place) (λ s. s.end) (start_at (entry_place S E)) ks bs → c ≤ E.budget
        back h =
            let w = low-some g S.laws 1 E.budget E.low E.fits in
            omega (arith, w.below, only g S.laws r E.low 0 (covers g S.laws w.cost) ((sits-all ks).1.end ∙ h.end))
