-- The row of a block by rising numbers of cycles, and the rows block by block.
-- Rests on theory Completions, calls Area, base Cells, tables Tables, specs Rows, Scan, Stored.
use mathlib.Core.Path.{◌≡◌, refl, sym, ap, subst, ◌∙◌}
use mathlib.Core.Bool.{Bool, true, false}
use mathlib.Core.List.{List}
use Prim.Native.Nat.{ℕ, suc, ◌≤◌, ◌<◌}
use native.Mathlib.Omega.{arith}
use native.Mathlib.Decide.{ℕ_discrete}
use lib.ListN.{length, get_or, set, length-set}
use Rattle.base.specs.Lists.{option_of}
use Rattle.base.specs.Cells.{cell_of, cell_count}
use Rattle.base.proofs.Cells.{cell-inside}
use Rattle.theory.specs.Completions.{largest}
use Rattle.calls.specs.Area.{stands}
use Rattle.tables.specs.Tables.{low_in, Lows}
use Rattle.look.specs.Rows.{latest, Filled, RowFilled}
use Rattle.look.proofs.Scan.{under, under-hit, under-miss}
use Rattle.look.proofs.Stored.{stored, others-kept}

-- one number more
latest-is : (f : ℕ → Bool) (last r : ℕ) (h : Bool) → f r ≡ h → option_of last ≡ under f r → option_of (latest last r h) ≡ under f (suc r)
unfolding latest
latest-is f last r true p e = sym (under-hit f r p)
latest-is f last r false p e = e ∙ sym (under-miss f r p)

-- an entry is small enough for a word
pub latest-small : (last r : ℕ) (h : Bool) → last ≤ r → latest last r h ≤ suc r
unfolding latest
latest-small last r true l = omega arith
latest-small last r false l = omega arith

-- ONE BLOCK: the entries below r are filled
pub record Filling (area : List ℕ) (b v : ℕ) (lows₀ lows : List ℕ) (last r : ℕ) : Type 0 where
  pub size : length lows ≡ length lows₀
  pub range : (r ≤ suc b) × (last ≤ r)
  pub ends : option_of last ≡ under (stands b area v) r
  pub below : (d : ℕ) → d < r → option_of (get_or lows (cell_of b v d) 0) ≡ largest (stands b area v) d
  pub kept : (u d : ℕ) → 1 ≤ u → (u ≡ v → ⊥) → d ≤ b → get_or lows (cell_of b u d) 0 ≡ get_or lows₀ (cell_of b u d) 0

-- a row lies where the rows up to it have room
pub in_row : (b v r k : ℕ) → 1 ≤ v → r ≤ b → cell_count v b ≤ k → cell_of b v r < k
in_row b v r k p l h = omega (arith, cell-inside b v v r p (omega arith) l)

module _ {area : List ℕ} {b v : ℕ} where
  pub row-start : (lows : List ℕ) → Filling area b v lows lows 0 0
  unfolding under option_of
  row-start lows = record {
    size = refl;
    range = omega arith;
    ends = refl;
    below = λ d l. absurd (omega arith);
    kept = λ u d p n i. refl;
  }

  module _ {lows₀ lows : List ℕ} {last r : ℕ} (F : Filling area b v lows₀ lows last r) where
    -- one turn fills the entry of r
    pub row_on : 1 ≤ v → r ≤ b → cell_count v b ≤ length lows₀ → {hit : Bool} {x : ℕ} {lows' : List ℕ} → hit ≡ stands b area v r
        → x ≡ latest last r hit → lows' ≡ set lows (cell_of b v r) x → (q : ℕ) → q ≡ suc r → Filling area b v lows₀ lows' x q
    unfolding under
    row_on p l room {hit} {x} {lows'} h i e q j =
        subst (Filling area b v lows₀ lows' x) (sym j) (record {
          size = ap length e ∙ length-set lows (cell_of b v r) x ∙ F.size;
          range = (omega arith, omega (arith, latest-small last r hit F.range.1));
          ends = now;
          below = λ d k. go d k (ℕ_discrete d r);
          kept = λ u d a n m. others-kept b v r x lows lows' e u d a p m l (λ k. n k.0) ∙ F.kept u d a n m;
        })
      where
        now : option_of x ≡ largest (stands b area v) r
        now = ap option_of i ∙ latest-is (stands b area v) last r hit (sym h) F.ends

        inside : cell_of b v r < length lows
        inside = in_row b v r (length lows) p l (omega (arith, F.size))

        go : (d : ℕ) → d < suc r → Dec (d ≡ r) → option_of (get_or lows' (cell_of b v d) 0) ≡ largest (stands b area v) d
        go d k (yes z) =
            subst (λ (y : ℕ). option_of (get_or lows' (cell_of b v y) 0) ≡ largest (stands b area v) y) (sym z)
            (ap option_of (stored b v r x lows lows' e inside) ∙ now)
        go d k (no z) =
            ap option_of (others-kept b v r x lows lows' e v d p p (omega arith) l (λ m. z m.1)) ∙ F.below d (omega arith)

    pub row-end : b < r → RowFilled area b v lows₀ lows
    unfolding Filled
    row-end l = record {
      size = F.size;
      row = λ d k. F.below d (omega arith);
      kept = λ u p n f d k. ap option_of (F.kept u d p n k) ∙ f d k;
    }

-- ALL BLOCKS: the rows of the blocks below v are filled
pub record AllFilled (area : List ℕ) (n b : ℕ) (lows₀ lows : List ℕ) (v : ℕ) : Type 0 where
  pub size : length lows ≡ length lows₀
  pub range : (1 ≤ v) × (v ≤ suc n)
  pub rows : (u : ℕ) → 1 ≤ u → u < v → Filled area b u lows

module _ {area : List ℕ} {n b : ℕ} where
  pub rows_start : (lows : List ℕ) → AllFilled area n b lows lows 1
  rows_start lows = record { size = refl; range = omega arith; rows = λ u p l. absurd (omega arith) }

  module _ {lows₀ lows : List ℕ} {v : ℕ} (A : AllFilled area n b lows₀ lows v) where
    pub rows_on : {lows' : List ℕ} → RowFilled area b v lows lows' → v ≤ n → (q : ℕ) → q ≡ suc v → AllFilled area n b lows₀ lows' q
    rows_on {lows'} f l q j = record {
      size = f.size ∙ A.size;
      range = omega (arith, A.range);
      rows = λ u p k. go u p (omega arith) (ℕ_discrete u v);
    }
      where
        go : (u : ℕ) → 1 ≤ u → u ≤ v → Dec (u ≡ v) → Filled area b u lows'
        go u p k (yes z) = subst (λ (y : ℕ). Filled area b y lows') (sym z) f.row
        go u p k (no z) = f.kept u p z (A.rows u p (omega arith))

    -- the rows are the look-up
    pub rows_end : cell_count n b ≤ length lows₀ → n < v → Lows (low_in b area) n b lows
    unfolding Filled
    rows_end room l = record { room = omega (arith, A.size); cells = λ u r p q k. A.rows u p (omega arith) r k }
