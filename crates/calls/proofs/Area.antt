-- The cells of the work area, for any number of blocks and any budget; the area while it is filled; what a call leaves in the area and in the
-- output row. Rests on base Lists and Cells, specs Area and Build.
use mathlib.Core.Path.{◌≡◌, refl, sym, ap, subst, ◌∙◌}
use mathlib.Core.Bool.{Bool, true, false, not}
use mathlib.Core.List.{List, [], ◌∷◌, ◌++◌, map}
use Prim.Native.Nat.{ℕ, zero, suc, ◌+◌, ◌-◌, ◌*◌, ◌≤◌, ◌<◌}
use native.Mathlib.Omega.{arith}
use native.Mathlib.Decide.{dec_le, ℕ_discrete}
use lib.Dec.{eqb}
use lib.ListN.{length, get_or, take, drop, replicate, length-map, length-append, length-drop, length-set, length-replicate, get_or-replicate, get_or-append}
use lib.Seq.{ext_get_or, get_or-append-add, get_or-drop, get_or-set_same, get_or-set_other, take_at, drop_at}
use Rattle.base.specs.Lists.{each, from}
use Rattle.base.specs.Checks.{lent_after}
use Rattle.base.proofs.Lists.{from-length}
use Rattle.base.proofs.Cells.{cell-inside, cell-rises, count-rises, one_cell, Cell, cell-of}
use Rattle.theory.specs.Completions.{Graph, completes}
use Rattle.calls.specs.SheetGraph.{bounded_sheet}
use Rattle.base.specs.Cells.{cell_of, cell_count, is_set}
use Rattle.calls.specs.Area.{area_size, marks, byte_of, bytes, filled, stands, HasCell, with_cell, cleared, Filling, Table}
use Rattle.calls.specs.Build.{output_after}

-- a cell of one line
line-cell : {A : Type 0} (f : ℕ → A) (d : A) (k x c : ℕ) → c < k → get_or (map f (from x k)) c d ≡ f (x + c)
unfolding from
line-cell f d zero x c h = absurd (omega arith)
line-cell f d (suc k) x zero h = ap f (omega arith)
line-cell f d (suc k) x (suc c) h = let p : suc x + c ≡ x + suc c = omega arith in rw (← p) (line-cell f d k (suc x) c (omega arith))

-- a cell of a table of lines of w cells
cell : {A : Type 0} (f : ℕ → ℕ → A) (d : A) (w n x i c : ℕ) → i < n → c < w
    → get_or (each (λ v. map (f v) (from 0 w)) (from x n)) (i * w + c) d ≡ f (x + i) c
unfolding each from
cell f d w zero x i c h l = absurd (omega arith)
cell f d w (suc n) x zero c h l =
    let p : 0 * w + c ≡ c = omega arith in
    let q : x + 0 ≡ x = omega arith in
    let r : 0 + c ≡ c = omega arith in
    let s : c < length (map (f x) (from 0 w)) = omega (arith, length-map (from 0 w) (f x), from-length w 0) in
    rw (p, q) (get_or-append (map (f x) (from 0 w)) _ d c s ∙ line-cell (f x) d w 0 c l ∙ ap (f x) r)
cell f d w (suc n) x (suc i) c h l =
    let p : suc i * w + c ≡ length (map (f x) (from 0 w)) + (i * w + c) = omega (arith, length-map (from 0 w) (f x), from-length w 0) in
    let q : x + suc i ≡ suc x + i = omega arith in
    rw (p, q) (get_or-append-add (map (f x) (from 0 w)) _ (i * w + c) d ∙ cell f d w n (suc x) i c (omega arith) l)

pub mark-at : (g : Graph) (n b v c : ℕ) → 1 ≤ v → v ≤ n → c ≤ b → get_or (marks g n b) (cell_of b v c) false ≡ completes g v c
unfolding marks cell_of
mark-at g n b v c p q l =
    let e : 1 + (v - 1) ≡ v = omega arith in
    cell (completes g) false (suc b) n 1 (v - 1) c (omega arith) (omega arith) ∙ ap (λ (x : ℕ). completes g x c) e

pub bytes-at : (ms : List Bool) (i : ℕ) → get_or (bytes ms) i 0 ≡ byte_of (get_or ms i false)
unfolding bytes byte_of
bytes-at [] zero = refl
bytes-at [] (suc i) = refl
bytes-at (m ∷ ms) zero = refl
bytes-at (m ∷ ms) (suc i) = bytes-at ms i

-- THE LAWS, for a block of 1 to n and a cost up to b
module _ (g : Graph) (n b v c : ℕ) (low : 1 ≤ v) (high : v ≤ n) (most : c ≤ b) where
  -- the byte of a cell is 1 where the block has that completion cost, else 0
  pub byte-mark : get_or (bytes (marks g n b)) (cell_of b v c) 0 ≡ byte_of (completes g v c)
  byte-mark = bytes-at (marks g n b) (cell_of b v c) ∙ ap byte_of (mark-at g n b v c low high most)

-- a byte is set where its mark is
pub set-byte : (m : Bool) → not (eqb (byte_of m) 0) ≡ m
unfolding byte_of
set-byte true = refl
set-byte false = refl

-- WHERE CELLS LIE: each in a byte of the area, and each byte is that of a cell
cell-byte : (n b v c : ℕ) → 1 ≤ v → v ≤ n → c ≤ b → cell_of b v c < area_size n b
unfolding area_size
cell-byte n b v c p q l = cell-inside b n v c p q l

byte-cell : (n b i : ℕ) → i < area_size n b → Cell n b i
unfolding area_size
byte-cell n b i l = cell-of n b i l

-- a cell of a block and a cost lies in an area that has room for all
pub area-cell : (n b v c : ℕ) (area : List ℕ) → 1 ≤ v → v ≤ n → c ≤ b → area_size n b ≤ length area → HasCell area (cell_of b v c)
area-cell n b v c area p q l room = omega (arith, cell-byte n b v c p q l)

-- so does that of a lower cost, where that of a higher one does
pub lower-cell : (b v c r : ℕ) (area : List ℕ) → c ≤ r → HasCell area (cell_of b v r) → HasCell area (cell_of b v c)
lower-cell b v c r area l h = omega (arith, cell-rises b v c r l)

-- fewer blocks take no more bytes
pub fewer-blocks : (n b v : ℕ) → v ≤ n → area_size v b ≤ area_size n b
unfolding area_size
fewer-blocks n b v l = count-rises b v n l

-- BYTES IN PLACE OF THE FIRST m: the rest is untouched, and so is the length
module _ (m : ℕ) (xs area : List ℕ) (size : length xs ≡ m) (room : m ≤ length area) where
  front_length : length (xs ++ drop m area) ≡ length area
  front_length = length-append xs (drop m area) ∙ omega (arith, length-drop m area)

  front_rest : (i : ℕ) → m ≤ i → get_or (xs ++ drop m area) i 0 ≡ get_or area i 0
  front_rest i l =
      let e : i ≡ length xs + (i - m) = omega arith in
      let f : m + (i - m) ≡ i = omega arith in
      ap (λ (k : ℕ). get_or (xs ++ drop m area) k 0) e ∙ get_or-append-add xs (drop m area) (i - m) 0 ∙ get_or-drop m area (i - m) 0
      ∙ ap (λ (k : ℕ). get_or area k 0) f

-- THE AREA AFTER A CALL

marks-length : (g : Graph) (n b : ℕ) → length (marks g n b) ≡ n * suc b
unfolding marks each from
marks-length g n b = lines n 1
  where
    lines : (k x : ℕ) → length (each (λ v. map (completes g v) (from 0 (suc b))) (from x k)) ≡ k * suc b
    lines zero x = omega arith
    lines (suc k) x =
        let line = map (completes g x) (from 0 (suc b)) in
        let rest = each (λ v. map (completes g v) (from 0 (suc b))) (from (suc x) k) in
        omega (arith, length-append line rest, length-map (from 0 (suc b)) (completes g x), from-length (suc b) 0, lines k (suc x))

module _ (g : Graph) (n b : ℕ) (area : List ℕ) (room : area_size n b ≤ length area) where
  table-length : length (bytes (marks g n b)) ≡ area_size n b
  unfolding area_size cell_count bytes
  table-length = length-map (marks g n b) byte_of ∙ marks-length g n b

  -- a cell is 1 where its block has its completion cost, else 0
  pub cell-filled : (v c : ℕ) → 1 ≤ v → v ≤ n → c ≤ b → get_or (filled g n b area) (cell_of b v c) 0 ≡ byte_of (completes g v c)
  unfolding filled
  cell-filled v c p q l =
      let i = cell-byte n b v c p q l in
      get_or-append (bytes (marks g n b)) _ 0 _ (omega (arith, table-length)) ∙ byte-mark g n b v c p q l

  -- the rest is untouched, and so is the length
  pub rest-untouched : (i : ℕ) → area_size n b ≤ i → get_or (filled g n b area) i 0 ≡ get_or area i 0
  unfolding filled
  rest-untouched = front_rest (area_size n b) (bytes (marks g n b)) area table-length room

  pub filled-length : length (filled g n b area) ≡ length area
  unfolding filled
  filled-length = front_length (area_size n b) (bytes (marks g n b)) area table-length room

  -- so it stands for the completion costs
  pub filled-table : Table g n b (filled g n b area)
  unfolding stands is_set
  filled-table = record {
    room = omega (arith, filled-length);
    cells = λ v c p q l. ap (λ (x : ℕ). not (eqb x 0)) (cell-filled v c p q l) ∙ set-byte (completes g v c);
  }

-- AN AREA WHILE IT IS FILLED

-- CLEARED: no cell is set
module _ (n b : ℕ) (area : List ℕ) (room : area_size n b ≤ length area) where
  zeros-length : length (replicate {A = ℕ} (area_size n b) 0) ≡ area_size n b
  zeros-length = length-replicate {A = ℕ} (area_size n b) 0

  pub cleared-length : length (cleared n b area) ≡ length area
  unfolding cleared
  cleared-length = front_length (area_size n b) (replicate (area_size n b) 0) area zeros-length room

  pub cleared-rest : (i : ℕ) → area_size n b ≤ i → get_or (cleared n b area) i 0 ≡ get_or area i 0
  unfolding cleared
  cleared-rest = front_rest (area_size n b) (replicate (area_size n b) 0) area zeros-length room

  pub cleared-byte : (i : ℕ) → i < area_size n b → get_or (cleared n b area) i 0 ≡ 0
  unfolding cleared
  cleared-byte i l =
      get_or-append (replicate (area_size n b) 0) _ 0 i (omega (arith, zeros-length)) ∙ get_or-replicate (area_size n b) i 0 0 l

  pub cleared-filling : Filling n b area (cleared n b area)
  cleared-filling = record { same = cleared-length; bits = λ i l. omega (arith, cleared-byte i l); rest = cleared-rest }

  pub cleared-stands : (v c : ℕ) → 1 ≤ v → v ≤ n → c ≤ b → stands b (cleared n b area) v c ≡ false
  unfolding stands is_set
  cleared-stands v c p q l = ap (λ (x : ℕ). not (eqb x 0)) (cleared-byte (cell_of b v c) (cell-byte n b v c p q l))

-- ONE CELL MORE: that of v and c
module _ (n b : ℕ) (area : List ℕ) (room : area_size n b ≤ length area) (v c : ℕ) (low : 1 ≤ v) (high : v ≤ n) (most : c ≤ b) where
  abbrev i : ℕ
  i = cell_of b v c

  byte-here : get_or (with_cell area i) i 0 ≡ 1
  unfolding with_cell
  byte-here = get_or-set_same area i 1 0 (area-cell n b v c area low high most room)

  byte-elsewhere : (j : ℕ) → (j ≡ i → ⊥) → get_or (with_cell area i) j 0 ≡ get_or area j 0
  unfolding with_cell
  byte-elsewhere j x = get_or-set_other area i j 1 0 x

  pub set-length : length (with_cell area (cell_of b v c)) ≡ length area
  unfolding with_cell
  set-length = length-set area i 1

  pub set-filling : {first : List ℕ} → Filling n b first area → Filling n b first (with_cell area (cell_of b v c))
  set-filling {first} F = record {
    same = set-length ∙ F.same;
    bits = λ j l. bit j l (ℕ_discrete j i);
    rest = λ j l. byte-elsewhere j (λ e. omega (arith, cell-byte n b v c low high most)) ∙ F.rest j l;
  }
    where
      bit : (j : ℕ) → j < area_size n b → Dec (j ≡ i) → get_or (with_cell area i) j 0 ≤ 1
      bit j l (yes e) = omega (arith, ap (λ (k : ℕ). get_or (with_cell area i) k 0) e, byte-here)
      bit j l (no x) = omega (arith, byte-elsewhere j x, F.bits j l)

  -- it is set, the others are as before, and none is lost
  pub set-stands : stands b (with_cell area (cell_of b v c)) v c ≡ true
  unfolding stands is_set
  set-stands = ap (λ (x : ℕ). not (eqb x 0)) byte-here

  pub set-others : (u d : ℕ) → 1 ≤ u → d ≤ b → ((u ≡ v) × (d ≡ c) → ⊥) → stands b (with_cell area (cell_of b v c)) u d ≡ stands b area u d
  unfolding stands is_set
  set-others u d p l x =
      ap (λ (y : ℕ). not (eqb y 0)) (byte-elsewhere (cell_of b u d) (λ e. x (one_cell b u d v c p low l most e)))

  pub set-stays : (u d : ℕ) → stands b area u d ≡ true → stands b (with_cell area (cell_of b v c)) u d ≡ true
  unfolding stands is_set
  set-stays u d e = go (ℕ_discrete (cell_of b u d) i)
    where
      go : Dec (cell_of b u d ≡ i) → is_set (with_cell area i) (cell_of b u d) ≡ true
      go (yes z) = ap (is_set (with_cell area i)) z ∙ set-stands
      go (no x) = ap (λ (y : ℕ). not (eqb y 0)) (byte-elsewhere (cell_of b u d) x) ∙ e

-- THE END: a filling that stands for the completion costs is the filled area
bit-of : (x : ℕ) (m : Bool) → x ≤ 1 → not (eqb x 0) ≡ m → x ≡ byte_of m
unfolding byte_of
bit-of zero m l e = ap byte_of e
bit-of (suc zero) m l e = ap byte_of e
bit-of (suc (suc x)) m l e = absurd (omega arith)

pub filling-filled : {g : Graph} {n b : ℕ} {first area : List ℕ} → Filling n b first area → Table g n b area → area ≡ filled g n b first
unfolding stands is_set
filling-filled {g} {n} {b} {first} {area} F T =
    ext_get_or 0 area (filled g n b first) (F.same ∙ sym (filled-length g n b first room)) (λ i l. at i (dec_le (area_size n b) i))
  where
    room : area_size n b ≤ length first
    room = omega (arith, F.same, T.room)

    at : (i : ℕ) → Dec (area_size n b ≤ i) → get_or area i 0 ≡ get_or (filled g n b first) i 0
    at i (yes l) = F.rest i l ∙ sym (rest-untouched g n b first room i l)
    at i (no l) =
        let x = byte-cell n b i (omega arith) in
        let p = x.inside in
        let k = cell-byte n b x.block x.number p.0 p.1 p.2 in
        subst (λ (j : ℕ). get_or area j 0 ≡ get_or (filled g n b first) j 0) x.place
        (bit-of _ _ (F.bits _ k) (T.cells x.block x.number p.0 p.1 p.2)
        ∙ sym (cell-filled g n b first room x.block x.number p.0 p.1 p.2))

-- THE OUTPUT ROW after an accepted build: its words, and the rest untouched
module _ (w : List ℕ) (h : ℕ) (output : List ℕ) where
  pub output-words : take (length (bounded_sheet w h)) (output_after w h 0 output) ≡ bounded_sheet w h
  unfolding lent_after output_after
  output-words = take_at (bounded_sheet w h) (drop (length (bounded_sheet w h)) output) (length (bounded_sheet w h)) refl

  pub output-rest : drop (length (bounded_sheet w h)) (output_after w h 0 output) ≡ drop (length (bounded_sheet w h)) output
  unfolding lent_after output_after
  output-rest = drop_at (bounded_sheet w h) (drop (length (bounded_sheet w h)) output) (length (bounded_sheet w h)) refl
