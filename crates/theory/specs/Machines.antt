-- Machines that move by choices, and their runs over a list (document 01, "Sent back because of the state": 31 and 32).
-- Rests on base Lists.
use Rattle.std.specs.Prelude.{◌≡◌, List, [], ◌∷◌, ℕ, zero, suc, ◌+◌, length, replicate}
use Rattle.std.proofs.Math.Option.{Option, some, none}
use Rattle.base.specs.Lists.{chosen}

-- how a walk stands
pub data End : Type 0 where
  going exit diverted : End

-- an answer, and the state after it
pub record Reply (S : Type 0) : Type 0 where
  pub answer : ℕ
  pub after : S

-- how a state stands, its targets in order, and the state after a target is taken
pub record Machine (S X : Type 0) : Type 0 where
  pub stands : S → End
  pub targets : S → List X
  pub take : S → X → S

-- the reply to a choice
module _ {S X : Type 0} (m : Machine S X) where
  unfoldable pub taken : S → Option X → Reply S
  taken s none = record { answer = 31; after = s }
  taken s (some x) = record { answer = 0; after = m.take s x }

  unfoldable pub reply_at : End → S → ℕ → Reply S
  reply_at going s k = taken s (chosen (m.targets s) k)
  reply_at exit s k = record { answer = 32; after = s }
  reply_at diverted s k = record { answer = 32; after = s }

  unfoldable pub reply : S → ℕ → Reply S
  reply s k = reply_at (m.stands s) s k

-- the cycles that a step takes, where a block v costs `cost v`, by its answer, how it stands then and the block that it shows then: a step that
-- is accepted enters that block, unless it diverts
unfoldable pub step_cycles : (ℕ → ℕ) → ℕ → End → ℕ → ℕ
step_cycles cost zero going v = cost v
step_cycles cost zero exit v = cost v
step_cycles cost zero diverted v = 0
step_cycles cost (suc n) e v = 0

-- steps one after the other, each with the state as the last one left it
module _ {S I : Type 0} (step : S → I → Reply S) where
  -- the row of answers
  unfoldable pub answers : S → List I → List ℕ
  answers s [] = []
  answers s (i ∷ is) = (step s i).answer ∷ answers (step s i).after is

  -- the last state
  unfoldable pub final : S → List I → S
  final s [] = s
  final s (i ∷ is) = final (step s i).after is

  -- what is shown, before the first step and after each
  unfoldable pub shown : (S → ℕ) → S → List I → List ℕ
  shown view s [] = view s ∷ []
  shown view s (i ∷ is) = view s ∷ shown view (step s i).after is

  -- the cycles of all blocks that are entered
  unfoldable pub cycles : (ℕ → ℕ) → (S → ℕ) → (S → End) → S → List I → ℕ
  cycles cost view stands s [] = 0
  cycles cost view stands s (i ∷ is) =
      let r = step s i in
      step_cycles cost r.answer (stands r.after) (view r.after) + cycles cost view stands r.after is

  -- a list that runs unchanged: each answer is 0, the blocks bs are shown in order, the first before any step, and the end is the exit
  pub record Unchanged (view : S → ℕ) (stands : S → End) (s : S) (is : List I) (bs : List ℕ) : Type 0 where
    pub answer : answers s is ≡ replicate (length is) 0
    pub blocks : shown view s is ≡ bs
    pub end : stands (final s is) ≡ exit

-- how many of a row of answers are 0
unfoldable pub zeros : List ℕ → ℕ
zeros [] = 0
zeros (zero ∷ xs) = suc (zeros xs)
zeros (suc x ∷ xs) = zeros xs
