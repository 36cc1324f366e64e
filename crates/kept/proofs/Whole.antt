-- What the first bytes of an input and its parity say, where they say it of any input: the same is said of what is kept in a row.
-- Rests on specs Held.
use mathlib.Core.Path.{◌≡◌, ap, ap₂, subst, ◌∙◌}
use mathlib.Core.Bool.{Bool}
use mathlib.Core.List.{List, [], ◌∷◌}
use Prim.Native.Nat.{ℕ, zero, suc, ◌<◌}
use native.Mathlib.Omega.{arith}
use lib.ListN.{length, get_or, take}
use Rattle.formats.specs.File.{odd_bytes}
use Rattle.kept.specs.Held.{Held, holding}

below : (n : ℕ) (bs : List ℕ) → ((i : ℕ) → get_or bs i 0 < 256) → (i : ℕ) → get_or (take n bs) i 0 < 256
below zero bs f i = omega arith
below (suc n) [] f i = omega arith
below (suc n) (b ∷ bs) f zero = f zero
below (suc n) (b ∷ bs) f (suc i) = below n bs (λ j. f (suc j)) i

-- n bytes are enough, where they are below 256
pub kept_whole : {A : Type 0} (said : List ℕ → Bool → A) (of : List ℕ → A) (n : ℕ)
    → ((fs : List ℕ) → ((i : ℕ) → get_or (take n fs) i 0 < 256) → said (take n fs) (odd_bytes fs) ≡ of fs)
    → {xs row : List ℕ} {k : ℕ} {odd : Bool} → Held xs row (holding k odd) → length row ≡ n → ((i : ℕ) → get_or row i 0 < 256)
    → said (take k row) odd ≡ of xs
kept_whole said of n whole {xs} {row} {k} H l bytes =
    let front = H.bytes ∙ ap (λ (m : ℕ). take m xs) l in
    ap₂ said front H.odd ∙ whole xs (λ i. subst (λ (bs : List ℕ). get_or bs i 0 < 256) front (below k row bytes i))
