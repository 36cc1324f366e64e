-- A MARGIN says what it should, of every copy that is reached, and nothing else would (document 02, K5).
-- Rests on base Lists, specs Margins and Setting, Next, Reach.
use mathlib.Core.Path.{◌≡◌, refl, sym, ap, subst, ◌∙◌}
use mathlib.Core.Option.{Option, some, none, map, none-ne-some, some-injective}
use Prim.Native.Nat.{ℕ, ◌+◌, ◌-◌, ◌≤◌, ◌<◌}
use native.Mathlib.Omega.{arith}
use native.Mathlib.Decide.{dec_lt, ℕ_discrete}
use lib.ListN.{length, length-map}
use Rattle.base.specs.Lists.{chosen}
use Rattle.base.specs.Copy.{Copy}
use Rattle.base.proofs.Lists.{chosen-map, chosen-mem}
use Rattle.theory.specs.Completions.{Graph, Completion, IsLow, IsNext, NoNext, next_of}
use Rattle.theory.specs.Tasks.{Task, copies_in}
use Rattle.theory.specs.Setting.{WellFormed, Setting}
use Rattle.theory.specs.Margins.{margin_of, margins_in, Says, opens, never}
use Rattle.theory.proofs.Next.{next-some, next-none, exit-next}
use Rattle.theory.proofs.Reach.{copy-sound}

module _ (g : Graph) (b v a : ℕ) (d : Completion g v a) where
  -- as long as nothing more is within reach, a is the largest
  still : {r : ℕ} → a ≤ r → ((c : ℕ) → Completion g v c → a < c → c ≤ r → ⊥) → IsLow g v r a
  still {r} l empty = record { cost = d; below = l; most = λ c e m. go c e m (dec_lt a c) }
    where
      go : (c : ℕ) → Completion g v c → c ≤ r → Dec (a < c) → c ≤ a
      go c e m (yes k) = absurd (empty c e k m)
      go c e m (no k) = omega arith

  says-next : {n : ℕ} → IsNext g b v a n → Says g b v a (some (n - a))
  says-next {n} w =
      let q : a + (n - a) ≡ n = omega (arith, w.above) in
      opens (n - a) (omega (arith, w.above)) (omega (arith, q, w.below))
      (rw q (record { cost = w.cost; below = omega arith; most = λ c e m. m }))
      (λ r l m. still l (λ c e k j. omega (arith, q, w.least c e k)))

  says_none : NoNext g b v a → Says g b v a none
  says_none n = never (λ r l m. still l (λ c e k j. n c e k (omega arith)))

-- the margin of any completion cost
pub margin-says : (g : Graph) → WellFormed g → (b v a : ℕ) → Completion g v a → Says g b v a (map (λ n. n - a) (next_of g b v a))
margin-says g L b v a d = go (next_of g b v a) refl
  where
    go : (o : Option ℕ) → next_of g b v a ≡ o → Says g b v a (map (λ n. n - a) (next_of g b v a))
    go none e = rw e (says_none g b v a d (next-none g L b v a e))
    go (some n) e = rw e (says-next g b v a d (next-some g L b v a n e))

-- WITH THAT MANY CYCLES MORE, AND NO FEWER, another path through the copy is within budget: the i-th margin is that of the i-th copy
module _ (S : Setting) (i : ℕ) (m : Option ℕ) where
  abbrev T : Task
  T = S.task

  pub margins-say : chosen (margins_in S.task) i ≡ some m
      → (c : Copy) × (chosen (copies_in S.task) i ≡ some c) × Says S.task.graph S.task.largest c.block c.low m
  unfolding margins_in
  margins-say q = go (chosen (copies_in T) i) refl (λ o e. sym (chosen-map (margin_of T) (copies_in T) i ∙ ap (map (margin_of T)) e) ∙ q)
    where
      go : (o : Option Copy) → chosen (copies_in T) i ≡ o
          → ((o : Option Copy) → chosen (copies_in T) i ≡ o → map (margin_of T) o ≡ some m)
          → (c : Copy) × (chosen (copies_in T) i ≡ some c) × Says T.graph T.largest c.block c.low m
      go none e by = absurd (none-ne-some m (by none e))
      go (some c) e by =
          let d = (copy-sound S c (chosen-mem (copies_in T) i c e)).1.cost in
          let s = margin-says T.graph S.laws T.largest c.block c.low d in
          (c, e, subst (Says T.graph T.largest c.block c.low) (some-injective (margin_of T c) m (by (some c) e)) s)

-- "of every copy"
pub margins-count : (T : Task) → length (margins_in T) ≡ length (copies_in T)
unfolding margins_in
margins-count T = length-map (copies_in T) (margin_of T)

-- "The exit's is always `none`"
pub exit-margin : (S : Setting) (c : Copy) → c.block ≡ 2 → margin_of S.task c ≡ none
exit-margin S c e =
    ap (λ (v : ℕ). map (λ n. n - c.low) (next_of S.task.graph S.task.largest v c.low)) e
    ∙ ap (map (λ n. n - c.low)) (exit-next S.task.graph S.laws S.task.largest c.low)

-- NOTHING ELSE IS IT
module _ (g : Graph) (b v a : ℕ) where
  -- what is opened by m more cycles is not without reach with so many
  not_yet : {m : ℕ} → 0 < m → IsLow g v (a + m) (a + m) → IsLow g v (a + m) a → ⊥
  not_yet {m} l w u = omega (arith, l, u.most (a + m) w.cost w.below)

  pub one-margin : {o p : Option ℕ} → Says g b v a o → Says g b v a p → o ≡ p
  one-margin (opens m l k w f) (opens n l' k' w' f') = go (ℕ_discrete m n) (dec_lt m n)
    where
      go : Dec (m ≡ n) → Dec (m < n) → some m ≡ some n
      go (yes e) _ = ap some e
      go (no e) (yes j) = absurd (not_yet l w (f' (a + m) (omega arith) (omega arith)))
      go (no e) (no j) = absurd (not_yet l' w' (f (a + n) (omega arith) (omega arith)))
  one-margin (opens m l k w f) (never f') = absurd (not_yet l w (f' (a + m) (omega arith) k))
  one-margin (never f) (opens n l' k' w' f') = absurd (not_yet l' w' (f (a + n) (omega arith) k'))
  one-margin (never f) (never f') = refl
