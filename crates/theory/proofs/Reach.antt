-- The copies of a setting are exactly those reached from its start copies; the targets of each are among them.
-- Rests on base Lists and Copies, Completions, Counts.
use mathlib.Core.Path.{◌≡◌, refl, sym, ap, subst, ◌∙◌}
use mathlib.Core.Logic.{◌⊎◌, inl, inr, ⊎_elim}
use mathlib.Core.Bool.{Bool, true, false}
use mathlib.Core.List.Memᴰ
use mathlib.Core.List.{List, [], ◌∷◌, map, Memᴰ}
use mathlib.Core.Option
use mathlib.Core.Option.{Option, some, none, none-ne-some, some-ne-none, some-injective}
use Prim.Native.Nat.{ℕ, zero, suc, ◌+◌, ◌-◌, ◌≤◌}
use native.Mathlib.Omega.{arith}
use native.Mathlib.Nat.{le_refl}
use native.Mathlib.Decide.{ℕ_discrete, dec_le}
use Rattle.base.specs.Lists.{each, from}
use Rattle.base.specs.Copy.{Copy, copy_of, is_in}
use Rattle.base.proofs.Lists.{each-i, each-e, keep-i, keep-e, from-i, from-e, choice-of}
use Rattle.base.proofs.Copies.{is_in-mem, mem-is_in}
use Rattle.theory.specs.Completions.{Graph, Completion, exit, step, IsLow, low_of}
use Rattle.theory.specs.Copies.{targets, copy_for, add, join, spread, candidates, start_copies, copies_from, Reached, start, along}
use Rattle.theory.specs.Setting.{WellFormed, Setting, Entry, starts, copies, exit_copy, start_copy}
use Rattle.theory.proofs.Completions.{away, low-some, is-low, exit-cost, covers}
use Rattle.theory.proofs.Counts.{target-of, edge_of}

-- the candidates are the pairs of a block 1 to n and a low up to b
pub candidate : (n b : ℕ) (c : Copy) → (1 ≤ c.block) × (c.block ≤ n) → c.low ≤ b → Memᴰ c (candidates n b)
unfolding candidates
candidate n b c p l =
    each-i (λ v. map (copy_of v) (from 0 (suc b))) (from 1 n) (from-i n 1 c.block p.0 (omega (arith, p)))
    (Memᴰ.map (copy_of c.block) (from-i (suc b) 0 c.low (omega arith) (omega arith)))

pub candidate-e : (n b : ℕ) (c : Copy) → Memᴰ c (candidates n b) → (1 ≤ c.block) × (c.block ≤ n) × (c.low ≤ b)
unfolding candidates
candidate-e n b c m =
    let r = each-e (λ v. map (copy_of v) (from 0 (suc b))) (from 1 n) m in
    let q = Memᴰ.of_map (copy_of r.0) (from 0 (suc b)) r.2 in
    let v : r.0 ≡ c.block = ap (λ (d : Copy). d.block) q.2 in
    let l : q.0 ≡ c.low = ap (λ (d : Copy). d.low) q.2 in
    omega (arith, from-e n 1 r.0 r.1, from-e (suc b) 0 q.0 q.1)

-- joining
add-view : (d : Copy) (cs : List Copy) → ((add d cs ≡ cs) × (is_in d cs ≡ true)) ⊎ (add d cs ≡ d ∷ cs)
unfolding add
add-view d cs = go (is_in d cs) refl
  where
    go : (b : Bool) → is_in d cs ≡ b → ((add d cs ≡ cs) × (is_in d cs ≡ true)) ⊎ (add d cs ≡ d ∷ cs)
    go true e = inl (rw (e, add), e)
    go false e = inr (rw (e, add))

add-new : (d : Copy) (cs : List Copy) → Memᴰ d (add d cs)
add-new d cs = go (add-view d cs)
  where
    go : ((add d cs ≡ cs) × (is_in d cs ≡ true)) ⊎ (add d cs ≡ d ∷ cs) → Memᴰ d (add d cs)
    go (inl e) = rw e.0 (is_in-mem d cs e.1)
    go (inr e) = rw e (Memᴰ.head refl)

add-old : (d c : Copy) (cs : List Copy) → Memᴰ c cs → Memᴰ c (add d cs)
add-old d c cs m = go (add-view d cs)
  where
    go : ((add d cs ≡ cs) × (is_in d cs ≡ true)) ⊎ (add d cs ≡ d ∷ cs) → Memᴰ c (add d cs)
    go (inl e) = rw e.0 m
    go (inr e) = rw e (Memᴰ.tail m)

add-e : (d c : Copy) (cs : List Copy) → Memᴰ c (add d cs) → (c ≡ d) ⊎ Memᴰ c cs
add-e d c cs m = go (add-view d cs)
  where
    go : ((add d cs ≡ cs) × (is_in d cs ≡ true)) ⊎ (add d cs ≡ d ∷ cs) → (c ≡ d) ⊎ Memᴰ c cs
    go (inl e) = inr (rw e.0 at m)
    go (inr e) = Memᴰ.cases_cons (rw e at m)

join-old : (os : List (Option Copy)) (c : Copy) (cs : List Copy) → Memᴰ c cs → Memᴰ c (join os cs)
unfolding join
join-old [] c cs m = m
join-old (none ∷ os) c cs m = join-old os c cs m
join-old (some d ∷ os) c cs m = join-old os c (add d cs) (add-old d c cs m)

join-new : (os : List (Option Copy)) (c : Copy) (cs : List Copy) → Memᴰ (some c) os → Memᴰ c (join os cs)
unfolding join
join-new [] c cs m = absurd (Memᴰ.not-nil m)
join-new (none ∷ os) c cs m = go (Memᴰ.cases_cons m) (join-new os c cs)
  where
    go : (some c ≡ none) ⊎ Memᴰ (some c) os → (Memᴰ (some c) os → Memᴰ c (join os cs)) → Memᴰ c (join os cs)
    go (inl e) below = absurd (some-ne-none c e)
    go (inr k) below = below k
join-new (some d ∷ os) c cs m = go (Memᴰ.cases_cons m) (join-new os c (add d cs))
  where
    go : (some c ≡ some d) ⊎ Memᴰ (some c) os → (Memᴰ (some c) os → Memᴰ c (join os (add d cs)))
        → Memᴰ c (join os (add d cs))
    go (inl e) below = join-old os c (add d cs) (Memᴰ.cast (some-injective c d e) (add-new d cs))
    go (inr k) below = below k

join-e : (os : List (Option Copy)) (c : Copy) (cs : List Copy) → Memᴰ c (join os cs) → Memᴰ (some c) os ⊎ Memᴰ c cs
unfolding join
join-e [] c cs m = inr m
join-e (none ∷ os) c cs m = ⊎_elim (λ k. inl (Memᴰ.tail k)) (λ k. inr k) (join-e os c cs m)
join-e (some d ∷ os) c cs m =
    ⊎_elim (λ k. inl (Memᴰ.tail k)) (λ k. ⊎_elim (λ e. inl (Memᴰ.head (ap some e))) (λ n. inr n) (add-e d c cs k))
    (join-e os c (add d cs) m)

-- THE START COPIES

pub start-i : (g : Graph) (bs : List ℕ) (b a : ℕ) → Memᴰ b bs → low_of g 1 b ≡ some a
    → Memᴰ (copy_of 1 a) (start_copies g bs)
unfolding start_copies copy_for
start-i g bs b a m e =
    let s : copy_for g b 1 ≡ some (copy_of 1 a) = ap (Option.map (copy_of 1)) e in
    join-new (map (λ b. copy_for g b 1) bs) _ [] (Memᴰ.cast (sym s) (Memᴰ.map (λ b. copy_for g b 1) m))

start-e : (g : Graph) (bs : List ℕ) (c : Copy) → Memᴰ c (start_copies g bs)
    → (b : ℕ) × Memᴰ b bs × (c.block ≡ 1) × (low_of g 1 b ≡ some c.low)
unfolding start_copies copy_for
start-e g bs c m = go (join-e (map (λ b. copy_for g b 1) bs) c [] m)
  where
    at : (b : ℕ) → Memᴰ b bs → (o : Option ℕ) → low_of g 1 b ≡ o → Option.map (copy_of 1) o ≡ some c
        → (b : ℕ) × Memᴰ b bs × (c.block ≡ 1) × (low_of g 1 b ≡ some c.low)
    at b i none e q = absurd (none-ne-some c q)
    at b i (some a) e q =
        let s : copy_of 1 a ≡ c = some-injective _ c q in
        (b, i, sym (ap (λ (x : Copy). x.block) s), e ∙ ap (λ (x : Copy). some x.low) s)

    go : Memᴰ (some c) (map (λ b. copy_for g b 1) bs) ⊎ Memᴰ c []
        → (b : ℕ) × Memᴰ b bs × (c.block ≡ 1) × (low_of g 1 b ≡ some c.low)
    go (inl n) = let r = Memᴰ.of_map (λ b. copy_for g b 1) bs n in at r.0 r.1 (low_of g 1 r.0) refl r.2
    go (inr n) = absurd (Memᴰ.not-nil n)

-- EDGES BETWEEN COPIES

-- a target of a copy is the copy of a successor
pub target-mem : (g : Graph) (c d : Copy) → Memᴰ (some d) (targets g c)
    → Memᴰ d.block (g.next c.block) × (low_of g d.block (c.low - g.cost c.block) ≡ some d.low)
target-mem g c d m = let k = choice-of m in target-of g c d (suc k.0) k.1

-- and the copy of a successor is a target
pub target-i : (g : Graph) (u a t d : ℕ) → Memᴰ t (g.next u) → low_of g t (a - g.cost u) ≡ some d
    → Memᴰ (some (copy_of t d)) (targets g (copy_of u a))
unfolding targets copy_for
target-i g u a t d m e =
    let s : copy_for g (a - g.cost u) t ≡ some (copy_of t d) = ap (Option.map (copy_of t)) e in
    Memᴰ.cast (sym s) (Memᴰ.map (copy_for g (a - g.cost u)) m)

-- REACHED COPIES, from start copies whose lows cover their blocks

module _ (g : Graph) (L : WellFormed g) where
  -- an edge of the construction is a target
  pub edge-target : (c d : Copy) {r : ℕ} → Memᴰ d.block (g.next c.block) → c.low ≡ g.cost c.block + r
      → IsLow g d.block r d.low → Memᴰ (some d) (targets g c)
  edge-target c d {r} m e w =
      let q : c.low - g.cost c.block ≡ r = omega arith in
      target-i g c.block c.low d.block d.low m (rw q (is-low g L w))

  module _ (ss : List Copy) (paid : (c : Copy) → Memᴰ c ss → g.cost c.block ≤ c.low) where
    -- a reached copy's low covers its block
    reached-covers : {j : ℕ} {c : Copy} → Reached g ss j c → g.cost c.block ≤ c.low
    reached-covers (start {c = c} m) = paid c m
    reached-covers (along r m e w) = covers g L w.cost

    -- and a target is an edge of the construction
    pub onward : {j : ℕ} {c d : Copy} → Reached g ss j c → Memᴰ (some d) (targets g c) → Reached g ss (suc j) d
    onward {j} {c} {d} r m =
        let t = target-mem g c d m in
        let e : c.low ≡ g.cost c.block + (c.low - g.cost c.block) = omega (arith, reached-covers r) in
        along r t.0 e (low-some g L d.block (c.low - g.cost c.block) d.low t.1)

    reached-spread : {j : ℕ} {c : Copy} → Reached g ss j c → Memᴰ c (spread g j ss)
    unfolding spread
    reached-spread (start m) = m
    reached-spread (along {j = j} {c = c} {d = d} r m e w) =
        let cs = spread g j ss in
        join-new (each (targets g) cs) d cs (each-i (targets g) cs (reached-spread r) (edge-target c d m e w))

    spread-reached : (k : ℕ) (c : Copy) → Memᴰ c (spread g k ss) → (j : ℕ) × Reached g ss j c
    unfolding spread
    spread-reached zero c m = (0, start m)
    spread-reached (suc k) c m = go (spread-reached k) (join-e (each (targets g) (spread g k ss)) c (spread g k ss) m)
      where
        go : ((d : Copy) → Memᴰ d (spread g k ss) → (j : ℕ) × Reached g ss j d)
            → Memᴰ (some c) (each (targets g) (spread g k ss)) ⊎ Memᴰ c (spread g k ss) → (j : ℕ) × Reached g ss j c
        go below (inl n) =
            let r = each-e (targets g) (spread g k ss) n in
            let h = below r.0 r.1 in
            (suc h.0, onward h.1 r.2)
        go below (inr n) = below c n

spread-le : (g : Graph) (ss : List Copy) (n k : ℕ) (c : Copy) → k ≤ n → Memᴰ c (spread g k ss) → Memᴰ c (spread g n ss)
unfolding spread
spread-le g ss zero k c l m = let e : k ≡ 0 = omega arith in subst (λ (x : ℕ). Memᴰ c (spread g x ss)) e m
spread-le g ss (suc n) k c l m = go (dec_le k n) (spread-le g ss n k c)
  where
    go : Dec (k ≤ n) → (k ≤ n → Memᴰ c (spread g k ss) → Memᴰ c (spread g n ss)) → Memᴰ c (spread g (suc n) ss)
    go (yes p) below = join-old (each (targets g) (spread g n ss)) c (spread g n ss) (below p m)
    go (no p) below = let e : k ≡ suc n = omega arith in subst (λ (x : ℕ). Memᴰ c (spread g x ss)) e m

-- THE COPIES OF A SETTING

module _ (S : Setting) where
  abbrev g : Graph
  g = S.task.graph

  abbrev L : WellFormed S.task.graph
  L = S.laws

  -- there are the start and the exit
  pub two : 2 ≤ S.task.blocks
  two =
      let e = edge_of g L (low-some g L 1 S.task.largest S.start S.opens).cost (λ e. omega arith) in
      omega (arith, L.above 1 e.0 e.1, S.inside 1 e.0 e.1)

  -- what holds of a copy reached by j edges
  pub record Sound (j : ℕ) (c : Copy) : Type 0 where
    pub cost : Completion g c.block c.low
    pub time : j + c.low ≤ suc S.task.largest
    pub small : c.low ≤ S.task.largest
    pub place : (1 ≤ c.block) × (c.block ≤ S.task.blocks)
    pub first : c.block ≡ 1 → (j ≡ 0) × Memᴰ c (starts S)

  pub sound : {j : ℕ} {c : Copy} → Reached g (starts S) j c → Sound j c
  sound (start {c = c} m) =
      let e = start-e g S.task.budgets c m in
      let w = low-some g L 1 e.0 c.low e.3 in
      let l : c.low ≤ S.task.largest = omega (arith, w.below, S.most e.0 e.1) in
      record {
        cost = subst (λ (v : ℕ). Completion g v c.low) (sym e.2) w.cost;
        time = omega arith;
        small = l;
        place = omega (arith, e.2, two);
        first = λ q. (refl, m);
      }
  sound (along {j = j} {r = r} {c = c} {d = d} p m e w) =
      let h = sound p in
      record {
        cost = w.cost;
        time = time h (ℕ_discrete c.block 1);
        small = omega (arith, w.below, h.small);
        place = omega (arith, L.above c.block d.block m, S.inside c.block d.block m);
        first = λ q. absurd (away L c.block d.block m q);
      }
    where
      time : Sound j c → Dec (c.block ≡ 1) → suc j + d.low ≤ suc S.task.largest
      time h (yes q) = omega (arith, (h.first q).0, w.below, h.small)
      time h (no q) = omega (arith, L.paid c.block d.block m q, w.below, h.time)

  start-paid : (c : Copy) → Memᴰ c (starts S) → g.cost c.block ≤ c.low
  start-paid c m = omega (arith, ap g.cost (start-e g S.task.budgets c m).2, L.free)

  abbrev all-reached : List Copy
  all-reached = spread g (suc S.task.largest) (starts S)

  -- a copy is one of the setting's exactly where it is reached
  pub reached-in : (j : ℕ) (c : Copy) → Reached g (starts S) j c → Memᴰ c (copies S)
  unfolding copies_from
  reached-in j c r =
      let h = sound r in
      keep-i (λ c. is_in c all-reached) (candidates S.task.blocks S.task.largest)
      (candidate S.task.blocks S.task.largest c h.place h.small)
      (mem-is_in c all-reached
      (spread-le g (starts S) (suc S.task.largest) j c (omega (arith, h.time)) (reached-spread g L (starts S) start-paid r)))

  pub in-reached : (c : Copy) → Memᴰ c (copies S) → (j : ℕ) × Reached g (starts S) j c
  unfolding copies_from
  in-reached c m =
      spread-reached g L (starts S) start-paid (suc S.task.largest) c
      (is_in-mem c _ (keep-e (λ c. is_in c all-reached) (candidates S.task.blocks S.task.largest) m).1)

  pub copy-sound : (c : Copy) → Memᴰ c (copies S) → (j : ℕ) × Sound j c
  copy-sound c m = let r = in-reached c m in (r.0, sound r.1)

  -- the targets of a copy are copies
  pub targets-in : (c d : Copy) → Memᴰ c (copies S) → Memᴰ (some d) (targets g c) → Memᴰ d (copies S)
  targets-in c d m t = let r = in-reached c m in reached-in (suc r.0) d (onward g L (starts S) start-paid r.1 t)

  -- every entry's start copy is a copy, and a copy of block 1 is the start copy of an entry
  pub start-in : (E : Entry S) → Memᴰ (start_copy S E) (copies S)
  start-in E = reached-in 0 (start_copy S E) (start (start-i g S.task.budgets E.budget E.low E.named E.fits))

  pub entry_of : (c : Copy) → Memᴰ c (starts S) → (E : Entry S) × (start_copy S E ≡ c)
  entry_of c m =
      let e = start-e g S.task.budgets c m in
      (record { budget = e.0; named = e.1; low = c.low; fits = e.3 }, λ i. record { block = sym e.2 i; low = c.low })

  pub start-only : (c : Copy) → Memᴰ c (copies S) → c.block ≡ 1 → (E : Entry S) × (start_copy S E ≡ c)
  start-only c m e = entry_of c ((copy-sound c m).1.first e).1

  -- the exit's copy is reached along any completion, and is the only one of its block
  to-exit : {v c : ℕ} → Completion g v c → (j : ℕ) → Reached g (starts S) j (copy_of v c)
      → (i : ℕ) × Reached g (starts S) i (exit_copy S)
  to-exit exit j r = (j, r)
  to-exit (step {c = c} m d q) j r =
      to-exit d (suc j) (along r m q (record { cost = d; below = le_refl c; most = λ n e l. l }))

  pub exit_in : Memᴰ (exit_copy S) (copies S)
  exit_in =
      let r = to-exit (low-some g L 1 S.task.largest S.start S.opens).cost 0
      (start (start-i g S.task.budgets S.task.largest S.start S.named S.opens)) in
      reached-in r.0 (exit_copy S) r.1

  pub exit-only : (c : Copy) → Memᴰ c (copies S) → c.block ≡ 2 → c ≡ exit_copy S
  exit-only c m e = let z : c.low ≡ 0 = exit-cost g L (copy-sound c m).1.cost e in λ i. record { block = e i; low = z i }
