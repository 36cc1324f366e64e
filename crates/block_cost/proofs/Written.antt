-- Cells written: one cell set, and the exit's cell alone; no cell is set but of a completion.
-- Rests on theory Completions, calls Area, Cells, specs States.
use mathlib.Core.Path.{◌≡◌, sym, ap, ◌∙◌}
use mathlib.Core.Bool.{true}
use mathlib.Core.List.{List}
use Prim.Native.Nat.{ℕ, ◌≤◌}
use native.Mathlib.Omega.{arith}
use native.Mathlib.Decide.{ℕ_discrete}
use lib.ListN.{length}
use Rattle.base.specs.Cells.{cell_of}
use Rattle.base.proofs.Truth.{not-both}
use Rattle.theory.specs.Completions.{Graph, exit, completes}
use Rattle.theory.proofs.Completions.{completes-complete}
use Rattle.calls.specs.Area.{stands, HasCell, with_cell, cleared, Filling}
use Rattle.calls.proofs.Area.{cleared-filling, cleared-stands, set-length, set-filling, set-stands, set-others, set-stays}
use Rattle.block_cost.specs.States.{Ready, Fair}
use Rattle.block_cost.proofs.Cells.{cell, ready_on}

-- ONE CELL SET
module _ {g : Graph} {n b : ℕ} {area after : List ℕ} (S : Ready g n b area)
    (h : (v c : ℕ) → 1 ≤ v → v ≤ n → c ≤ b → stands b area v c ≡ true → completes g v c ≡ true)
    (v c : ℕ) (p : (1 ≤ v) × (v ≤ n)) (l : c ≤ b) (m : completes g v c ≡ true) (q : after ≡ with_cell area (cell_of b v c)) where
  pub wrote-here : stands b after v c ≡ true
  wrote-here = rw q (set-stands n b area S.room v c p.0 p.1 l)

  pub wrote-stays : (u d : ℕ) → stands b area u d ≡ true → stands b after u d ≡ true
  wrote-stays u d e = rw q (set-stays n b area S.room v c p.0 p.1 l u d e)

  pub wrote-same : length after ≡ length area
  wrote-same = ap length q ∙ set-length n b area S.room v c p.0 p.1 l

  pub wrote-filling : (first : List ℕ) → Filling n b first area → Filling n b first after
  wrote-filling first F = rw q (set-filling n b area S.room v c p.0 p.1 l F)

  wrote-cells : (u d : ℕ) → 1 ≤ u → u ≤ n → d ≤ b → stands b after u d ≡ true → completes g u d ≡ true
  wrote-cells u d i j k e = go (ℕ_discrete u v) (ℕ_discrete d c)
    where
      before : ((u ≡ v) × (d ≡ c) → ⊥) → completes g u d ≡ true
      before x =
          let s = set-others n b area S.room v c p.0 p.1 l u d i k x in
          h u d i j k (sym s ∙ ap (λ (a : List ℕ). stands b a u d) (sym q) ∙ e)

      go : Dec (u ≡ v) → Dec (d ≡ c) → completes g u d ≡ true
      go (yes x) (yes y) = ap (λ (z : ℕ). completes g z d) x ∙ ap (λ (z : ℕ). completes g v z) y ∙ m
      go (no x) z = before (λ w. x w.0)
      go (yes x) (no y) = before (λ w. y w.1)

  pub wrote-fair : stands b after 2 0 ≡ true → Fair g n b after
  wrote-fair e = record { ready = ready_on S wrote-same; exit = e; cells = wrote-cells }

-- THE EXIT'S CELL ALONE
module _ {g : Graph} {n b : ℕ} {area : List ℕ} (S : Ready g n b area) {mid : List ℕ} (q : mid ≡ cleared n b area) where
  clear-filling : Filling n b area mid
  clear-filling = rw q (cleared-filling n b area S.room)

  clear-ready : Ready g n b mid
  clear-ready = ready_on S clear-filling.same

  clear-cells : (v c : ℕ) → 1 ≤ v → v ≤ n → c ≤ b → stands b mid v c ≡ true → completes g v c ≡ true
  clear-cells v c p k l e =
      absurd (not-both e (ap (λ (a : List ℕ). stands b a v c) q ∙ cleared-stands n b area S.room v c p k l))

  exit-block : (1 ≤ 2) × (2 ≤ n)
  exit-block = (omega arith, S.graph.blocks.0)

  exit-completes : completes g 2 0 ≡ true
  exit-completes = completes-complete g S.graph.laws exit

  pub exit-fits : HasCell mid (cell_of b 2 0)
  exit-fits = cell clear-ready 2 0 exit-block (omega arith)

  module _ {after : List ℕ} (s : after ≡ with_cell mid (cell_of b 2 0)) where
    pub begun-filling : Filling n b area after
    begun-filling = wrote-filling clear-ready clear-cells 2 0 exit-block (omega arith) exit-completes s area clear-filling

    pub begun-fair : Fair g n b after
    begun-fair =
        let e = wrote-here clear-ready clear-cells 2 0 exit-block (omega arith) exit-completes s in
        wrote-fair clear-ready clear-cells 2 0 exit-block (omega arith) exit-completes s e
