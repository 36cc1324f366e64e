-- One block's cost: set where the masks meet, in the area and in its mask.
-- Rests on theory Completions, calls Area, masks Masks, Cells, Written, specs Masked and States.
use mathlib.Core.Path.{◌≡◌, refl, sym, ap, ap₂, subst, ◌∙◌}
use mathlib.Core.Logic.{◌≢◌}
use mathlib.Core.Bool.{true}
use mathlib.Core.List.{List, Memᴰ}
use Prim.Native.Nat.{ℕ, ◌+◌, ◌-◌, ◌*◌, ◌≤◌, ◌<◌}
use native.Mathlib.Decide.{ℕ_discrete}
use native.Mathlib.Omega.{arith}
use lib.ListN.{length}
use Rattle.theory.specs.Completions.{Graph, Completion, exit, step, completes}
use Rattle.theory.proofs.Completions.{completes-sound, completes-complete}
use Rattle.base.specs.Cells.{cell_of}
use Rattle.calls.specs.Area.{stands, with_cell, cleared}
use Rattle.calls.proofs.Area.{set-others, cleared-filling, cleared-stands}
use Rattle.masks.specs.Masks.{in_mask, Empty, Put, Common}
use Rattle.block_cost.specs.Masked.{Mirror, Kept}
use Rattle.block_cost.specs.States.{Ready, Fair, Wider}
use Rattle.block_cost.proofs.Cells.{ready_on}
use Rattle.block_cost.proofs.Written.{wrote-here, wrote-stays, wrote-same, wrote-filling, wrote-fair}

-- MORE CELLS SET
pub wider-then : {g : Graph} {n b : ℕ} {first area after : List ℕ} → Wider g n b first area → Wider g n b area after
    → Wider g n b first after
wider-then K M = record {
  fair = M.fair;
  same = M.same ∙ K.same;
  filling = λ f F. M.filling f (K.filling f F);
  stays = λ v c e. M.stays v c (K.stays v c e);
}

module _ {g : Graph} {n b : ℕ} {area : List ℕ} (F : Fair g n b area) where
  pub same-wide : Wider g n b area area
  same-wide = record { fair = F; same = refl; filling = λ f G. G; stays = λ v c e. e }

  module _ {v c : ℕ} (p : (1 ≤ v) × (v ≤ n)) (l : c ≤ b) (m : completes g v c ≡ true) {after : List ℕ} (s : after ≡ with_cell area (cell_of b v c)) where
    pub wrote : Wider g n b area after
    wrote = record {
      fair = wrote-fair F.ready F.cells v c p l m s (wrote-stays F.ready F.cells v c p l m s 2 0 F.exit);
      same = wrote-same F.ready F.cells v c p l m s;
      filling = wrote-filling F.ready F.cells v c p l m s;
      stays = wrote-stays F.ready F.cells v c p l m s;
    }

    pub wrote_it : stands b after v c ≡ true
    wrote_it = wrote-here F.ready F.cells v c p l m s

-- A CELL AND A BIT set together
pub mirror-put : {g : Graph} {n b : ℕ} {has area : List ℕ} → Ready g n b area → Mirror n b has area → {v c : ℕ} → (1 ≤ v) × (v ≤ n) → c ≤ b
    → {has' after : List ℕ} → Put c v has has' → after ≡ with_cell area (cell_of b v c) → stands b after v c ≡ true → Mirror n b has' after
mirror-put {g} {n} {b} {has} {area} S M {v} {c} p l {has'} {after} P s e = record {
  room = omega (arith, P.same, M.room);
  cells = λ t d i j k. go t d i j k (ℕ_discrete t v) (ℕ_discrete d c);
}
  where
    other : (t d : ℕ) → 1 ≤ t → t ≤ n → d ≤ b → ((t ≡ v) × (d ≡ c) → ⊥) → in_mask has' d t ≡ stands b after t d
    other t d i j k x =
        P.others d t i (omega (arith, S.graph.blocks.1)) (λ y z. x (z, y)) ∙ M.cells t d i j k
        ∙ sym (set-others n b area S.room v c p.0 p.1 l t d i k x) ∙ ap (λ (a : List ℕ). stands b a t d) (sym s)

    go : (t d : ℕ) → 1 ≤ t → t ≤ n → d ≤ b → Dec (t ≡ v) → Dec (d ≡ c) → in_mask has' d t ≡ stands b after t d
    go t d i j k (yes y) (yes z) = ap₂ (λ (d t : ℕ). in_mask has' d t) z y ∙ P.here ∙ sym e ∙ ap₂ (λ (t d : ℕ). stands b after t d) (sym y) (sym z)
    go t d i j k (no y) _ = other t d i j k (λ x. y x.0)
    go t d i j k (yes y) (no z) = other t d i j k (λ x. z x.1)

-- WHERE THE MASKS MEET v has the cost, and where they do not it has not
module _ {g : Graph} {n b : ℕ} {nexts has area : List ℕ} (K : Kept g n b nexts has area) {v c own : ℕ} (o : own ≡ g.cost v) where
  pub met-completes : c ≤ b → own ≤ c → Common has (c - own) nexts v → completes g v c ≡ true
  met-completes l k C =
      let t = C.block in
      let m = K.listed.sound v t C.range.0 C.range.1 C.other in
      let r = K.fair.ready.graph.target v t m in
      let d : c - own ≤ b = omega arith in
      let e = K.fair.cells t (c - own) C.range.0 r.1 d (sym (K.mirror.cells t (c - own) C.range.0 r.1 d) ∙ C.one) in
      completes-complete g K.fair.ready.graph.laws (step m (completes-sound g K.fair.ready.graph.laws t (c - own) e) (omega arith))

  module _ (ahead : (t d : ℕ) → Memᴰ t (g.next v) → c ≡ g.cost v + d → completes g t d ≡ true → stands b area t d ≡ true)
      (p : (1 ≤ v) × (v ≤ n) × (v ≢ 2)) (l : c ≤ b) where
    onward : {w d : ℕ} → Completion g w d → w ≡ v → d ≡ c → (own ≤ c) × Common has (c - own) nexts v
    onward exit e z = absurd (p.2 (sym e))
    onward (step {v = w} {t = t} {c = f} {n = d} m r i) e z =
        let m' : Memᴰ t (g.next v) = subst (λ (x : ℕ). Memᴰ t (g.next x)) e m in
        let q : c ≡ g.cost v + f = sym z ∙ i ∙ ap (λ (x : ℕ). g.cost x + f) e in
        let k : c - own ≡ f = omega arith in
        let s = K.fair.ready.graph.target v t m' in
        let h = ahead t f m' q (completes-complete g K.fair.ready.graph.laws r) in (
          omega arith,
          record {
            block = t;
            range = (omega (arith, s.0), omega (arith, s.1, K.fair.ready.graph.blocks.1));
            one = ap (λ (x : ℕ). in_mask has x t) k ∙ K.mirror.cells t f (omega (arith, s.0)) s.1 (omega arith) ∙ h;
            other = K.listed.full v t (omega (arith, p.1)) m';
          },
        )

    pub too-dear : c < own → completes g v c ≡ true → ⊥
    too-dear k m = omega (arith, (onward (completes-sound g K.fair.ready.graph.laws v c m) refl refl).0)

    pub unmet : (Common has (c - own) nexts v → ⊥) → completes g v c ≡ true → ⊥
    unmet n m = n (onward (completes-sound g K.fair.ready.graph.laws v c m) refl refl).1

-- THE EXIT'S COST 0 ALONE
pub mirror-begun : {g : Graph} {n b : ℕ} {has area : List ℕ} → Ready g n b area → Empty has × (2 * b + 2 ≤ length has)
    → {mid after has' : List ℕ} → mid ≡ cleared n b area → after ≡ with_cell mid (cell_of b 2 0) → stands b after 2 0 ≡ true → Put 0 2 has has'
    → Mirror n b has' after
unfolding Empty
mirror-begun {g} {n} {b} {has} {area} S p {mid} q s e P =
    let R = ready_on S (ap length q ∙ (cleared-filling n b area S.room).same) in
    let M : Mirror n b has mid
    = record { room = p.1; cells = λ t c j k l. p.0 c t ∙ sym (ap (λ (a : List ℕ). stands b a t c) q ∙ cleared-stands n b area S.room t c j k l) } in
    mirror-put R M (omega arith, S.graph.blocks.0) (omega arith) P s e
