-- Lowered budgets by their places, and as the front of a row.
-- Rests on formats Handler, put_words Put.
use mathlib.Core.Path.{◌≡◌, sym, ap, ◌∙◌}
use mathlib.Core.List.{List}
use Prim.Native.Nat.{ℕ, suc, ◌+◌, ◌-◌, ◌<◌}
use native.Mathlib.Omega.{arith}
use lib.ListN.{length, get_or, take, drop}
use lib.Seq.{take_at}
use Rattle.formats.specs.Versions.{lowered}
use Rattle.formats.proofs.Handler.{lowered-nth}
use Rattle.put_words.specs.Put.{put_words}

-- the one at the place i, counted from 0
pub lowered-at : (h : ℕ) (bs : List ℕ) (i : ℕ) → i < length bs → {c b : ℕ} → c ≡ get_or bs i 0 → b ≡ c - h → b ≡ get_or (lowered h bs) i 0
lowered-at h bs i l p q =
    let e : suc i - 1 ≡ i = omega arith in
    q ∙ ap (λ (x : ℕ). x - h) (p ∙ sym (ap (λ (j : ℕ). get_or bs j 0) e))
    ∙ sym (lowered-nth h bs (suc i) (omega arith) (omega arith)) ∙ ap (λ (j : ℕ). get_or (lowered h bs) j 0) e

-- words put at the front of a row are its first ones
pub front-is : (row ws : List ℕ) (n : ℕ) → length ws ≡ n → take n (put_words row 0 ws) ≡ ws
unfolding put_words
front-is row ws n e = take_at ws (drop (0 + length ws) row) n e
