-- The monitor is the watch of document 01, sentence by sentence, over the inductive completions.
-- Rests on Completions, Runs.
use mathlib.Core.Path.{◌≡◌, refl, ap, ◌∙◌}
use mathlib.Core.Logic.{◌⊎◌, inl, inr, ◌≢◌}
use mathlib.Core.Bool.{Bool, true, false}
use mathlib.Core.List.{List, [], ◌∷◌}
use mathlib.Core.Option.{Option, some, none}
use Prim.Native.Nat.{ℕ, zero, suc, ◌<◌}
use native.Mathlib.Omega.{arith}
use lib.ListN.{length}
use Rattle.base.specs.Lists.{chosen}
use Rattle.theory.specs.Completions.{Graph, fits}
use Rattle.theory.specs.Machines.{End, going, exit, diverted, taken, reply_at, reply}
use Rattle.theory.specs.Walks.{Walk, monitor, monitor_take}
use Rattle.theory.specs.Setting.{WellFormed, MonitorActs}
use Rattle.theory.proofs.Completions.{fits-i, fits_not}
use Rattle.theory.proofs.Runs.{reply-going}

-- a choice of 0 or beyond the list is none of its elements
none-chosen : {X : Type 0} (xs : List X) (k : ℕ) → (k ≡ 0) ⊎ (length xs < k) → chosen xs k ≡ none
unfolding chosen
none-chosen xs zero h = refl
none-chosen [] (suc k) h = refl
none-chosen (x ∷ xs) (suc zero) (inl h) = absurd (omega arith)
none-chosen (x ∷ xs) (suc zero) (inr h) = absurd (omega arith)
none-chosen (x ∷ xs) (suc (suc k)) (inl h) = absurd (omega arith)
none-chosen (x ∷ xs) (suc (suc k)) (inr h) = none-chosen xs (suc k) (inr (omega arith))

module _ (g : Graph) (L : WellFormed g) (b : ℕ) where
  -- a going state replies by its choice's target
  by-choice : (s : Walk) (k : ℕ) (o : Option ℕ) → s.end ≡ going → chosen (g.next s.place) k ≡ o
      → reply (monitor g b) s k ≡ taken (monitor g b) s o
  unfolding monitor
  by-choice s k o e q = reply-going (monitor g b) s k e ∙ ap (taken (monitor g b) s) q

  -- and takes the target by whether something fits
  by-fit : (s : Walk) (t : ℕ) (f : Bool) → fits g b s.count t ≡ f
      → taken (monitor g b) s (some t) ≡ record { answer = 0; after = monitor_take g b s t f }
  unfolding taken monitor
  by-fit s t f e = ap (λ (f : Bool). record { answer = 0; after = monitor_take g b s t f }) e

  stays : (s : Walk) (k : ℕ) (e : End) → s.end ≡ e → e ≢ going → reply (monitor g b) s k ≡ record { answer = 32; after = s }
  unfolding reply reply_at monitor
  stays s k going p n = absurd (n refl)
  stays s k exit p n = ap (λ (e : End). reply_at (monitor g b) e s k) p
  stays s k diverted p n = ap (λ (e : End). reply_at (monitor g b) e s k) p

  pub monitor-acts : MonitorActs g b
  unfolding monitor_take taken
  monitor-acts = record {
    ended = λ s k n. stays s k s.end refl n;
    no-choice = λ s k e h. by-choice s k none e (none-chosen (g.next s.place) k h);
    enters = λ s k t c e q d l. by-choice s k (some t) e q ∙ by-fit s t true (fits-i g L b s.count d l);
    diverts = λ s k t e q n. by-choice s k (some t) e q ∙ by-fit s t false (fits_not g L b s.count t n);
  }
