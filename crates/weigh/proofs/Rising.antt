-- All costs, by rising cost and block by block: then every cell of a completion is set.
-- Rests on base Truth, theory Completions, successor_masks Joined, block_cost OneCost, Masked and States.
use mathlib.Core.Path.{◌≡◌, refl, sym, ap, ap₂, ◌∙◌}
use mathlib.Core.Logic.{◌≢◌}
use mathlib.Core.Bool.{true}
use mathlib.Core.List.{List, Memᴰ}
use Prim.Native.Nat.{ℕ, ◌+◌, ◌≤◌, ◌<◌}
use native.Mathlib.Decide.{ℕ_discrete}
use native.Mathlib.Omega.{arith}
use lib.ListN.{length}
use Rattle.base.proofs.Truth.{same_test}
use Rattle.theory.specs.Completions.{Graph, completes}
use Rattle.theory.proofs.Completions.{completes-sound, exit-cost}
use Rattle.calls.specs.Area.{stands, Table}
use Rattle.successor_masks.specs.Joined.{Joined}
use Rattle.block_cost.specs.States.{Fair, Wider, Settled}
use Rattle.block_cost.specs.Masked.{Kept}
use Rattle.block_cost.proofs.OneCost.{same-wide, wider-then}

-- no cost is below 0
pub settled-none : {g : Graph} {n b : ℕ} {area : List ℕ} → Settled g n b area 0 2
settled-none = record { before = λ t d p q l k m. absurd (omega arith); here = λ t p k q l m. absurd (omega arith) }

module _ {g : Graph} {n b : ℕ} {area : List ℕ} {c : ℕ} where
  -- the exit's only cost is 0, which is set
  pub settled-exit : Fair g n b area → Settled g n b area c 2 → Settled g n b area c 3
  settled-exit F S = record {
    before = S.before;
    here = λ t p k q l m.
        let e : t ≡ 2 = omega arith in
        let z = exit-cost g F.ready.graph.laws (completes-sound g F.ready.graph.laws t c m) e in
        ap₂ (λ (t d : ℕ). stands b area t d) e z ∙ F.exit;
  }

  -- one block more
  pub settled_on : {v : ℕ} {after : List ℕ} → Settled g n b area c v → Wider g n b area after
      → (completes g v c ≡ true → stands b after v c ≡ true) → Settled g n b after c (v + 1)
  settled_on {v} {after} S W h = record {
    before = λ t d p q l k m. W.stays t d (S.before t d p q l k m);
    here = λ t p k q l m. go t p k q l m (ℕ_discrete t v);
  }
    where
      go : (t : ℕ) → 2 ≤ t → t < v + 1 → t ≤ n → c ≤ b → completes g t c ≡ true → Dec (t ≡ v) → stands b after t c ≡ true
      go t p k q l m (yes z) =
          ap (λ (t : ℕ). stands b after t c) z ∙ h (ap (λ (t : ℕ). completes g t c) (sym z) ∙ m)
      go t p k q l m (no z) = W.stays t c (S.here t p (omega arith) q l m)

  -- the start last, and the next cost
  pub settled-next : {v : ℕ} {after : List ℕ} → n < v → Settled g n b area c v → Wider g n b area after
      → (completes g 1 c ≡ true → stands b after 1 c ≡ true) → Settled g n b after (c + 1) 2
  settled-next {v} {after} r S W h = record {
    before = λ t d p q l k m. go t d p q l k m (ℕ_discrete d c) (ℕ_discrete t 1);
    here = λ t p k q l m. absurd (omega arith);
  }
    where
      go : (t d : ℕ) → 1 ≤ t → t ≤ n → d ≤ b → d < c + 1 → completes g t d ≡ true → Dec (d ≡ c) → Dec (t ≡ 1) → stands b after t d ≡ true
      go t d p q l k m (no z) _ = W.stays t d (S.before t d p q l (omega arith) m)
      go t d p q l k m (yes z) (yes y) =
          ap₂ (λ (t d : ℕ). stands b after t d) y z ∙ h (ap₂ (λ (t d : ℕ). completes g t d) (sym y) (sym z) ∙ m)
      go t d p q l k m (yes z) (no y) =
          W.stays t d (ap (λ (d : ℕ). stands b area t d) z
          ∙ S.here t (omega arith) (omega arith) q (omega arith) (ap (λ (d : ℕ). completes g t d) (sym z) ∙ m))

  -- WHAT IS ONWARD from a block is settled: for less, or, from the start, for the same
  module _ {v : ℕ} (G : Joined g n) (S : Settled g n b area c v) (l : c ≤ b) where
    pub ahead-block : {w : ℕ} → w ≢ 1 → (t d : ℕ) → Memᴰ t (g.next w) → c ≡ g.cost w + d → completes g t d ≡ true
        → stands b area t d ≡ true
    ahead-block {w} n t d m e k =
        let r = G.target w t m in
        S.before t d (omega (arith, r.0)) r.1 (omega arith) (omega (arith, G.laws.paid w t m n)) k

    pub ahead-start : n < v → (t d : ℕ) → Memᴰ t (g.next 1) → c ≡ g.cost 1 + d → completes g t d ≡ true → stands b area t d ≡ true
    ahead-start h t d m e k =
        let r = G.target 1 t m in
        let z : d ≡ c = omega (arith, G.laws.free) in
        ap (λ (d : ℕ). stands b area t d) z
        ∙ S.here t r.0 (omega (arith, r.1)) r.1 l (ap (λ (d : ℕ). completes g t d) (sym z) ∙ k)

-- so the area stands for the completion costs once all are settled
pub all_right : {g : Graph} {n b : ℕ} {area : List ℕ} → Fair g n b area → Settled g n b area (b + 1) 2 → Table g n b area
all_right {g} {n} {b} {area} F S = record {
  room = F.ready.room;
  cells = λ v d p o l.
      same_test (stands b area v d) (completes g v d) (F.cells v d p o l) (S.before v d p o l (omega arith));
}

-- A LOOP over blocks, or over costs: the masks and the area so far, of the length that they were lent with
pub record Going (g : Graph) (n b : ℕ) (nexts has₀ area₀ has area : List ℕ) (c v : ℕ) : Type 0 where
  pub kept : Kept g n b nexts has area
  pub wider : Wider g n b area₀ area
  pub same : length has ≡ length has₀
  pub settled : Settled g n b area c v

module _ {g : Graph} {n b : ℕ} {nexts has area : List ℕ} {c v : ℕ} where
  pub going_start : Kept g n b nexts has area → Settled g n b area c v → Going g n b nexts has area has area c v
  going_start K S = record { kept = K; wider = same-wide K.fair; same = refl; settled = S }

  pub going_on : {has₀ area₀ has' after : List ℕ} {d w : ℕ} → Going g n b nexts has₀ area₀ has area c v → Kept g n b nexts has' after
      → Wider g n b area after → length has' ≡ length has → Settled g n b after d w → Going g n b nexts has₀ area₀ has' after d w
  going_on G K M e S = record { kept = K; wider = wider-then G.wider M; same = e ∙ G.same; settled = S }
