-- What a written bounded sheet reads as, behind any header: row by row the block, the low, the chain and the targets.
-- Rests on base Lists, specs BoundedSheet, Headings.
use mathlib.Core.Path.{◌≡◌, refl, sym, ap, ap₂, ◌∙◌}
use mathlib.Core.List.{List, [], ◌∷◌, ◌++◌, map}
use mathlib.Core.Option.{some, none-ne-some, some-injective}
use Prim.Native.Nat.{ℕ, zero, suc, ◌+◌, ◌-◌, ◌*◌, ◌≤◌, ◌<◌}
use native.Mathlib.Omega.{arith}
use lib.ListN.{length, take, drop, length-append, get_or-append}
use lib.Seq.{take_at, get_or-drop, drop-drop, get_or-append-add, drop-append-add}
use Rattle.base.specs.Lists.{each, from, chosen}
use Rattle.base.proofs.Lists.{chosen-le, from-length}
use Rattle.formats.specs.Words.{word, follow}
use Rattle.formats.specs.BoundedSheet.{Row, edge_records, first_edge, copy_words, edge_words, edge_count, record_words, Preface, heading_words, sheet_words}
use Rattle.formats.specs.BoundedSheet.{Heading, heading, bounded_length, block_at, low_at, first_at, target_at, next_at, chain_at, targets_at}
use Rattle.formats.proofs.Headings.{Proper, header-reads}

-- three words a row
pub copy_words-length : (e : ℕ) (rs : List Row) → length (copy_words e rs) ≡ 3 * length rs
unfolding copy_words
copy_words-length e [] = refl
copy_words-length e (r ∷ rs) = let h = copy_words-length (e + length r.target_words) rs in omega arith

-- the number of the first edge of the i-th row, counted from 1
unfoldable pub start_of : ℕ → List Row → ℕ → ℕ
start_of e [] i = e
start_of e (r ∷ rs) zero = e
start_of e (r ∷ rs) (suc zero) = e
start_of e (r ∷ rs) (suc (suc i)) = start_of (e + length r.target_words) rs (suc i)

-- the words of the i-th row
record Written (e : ℕ) (rs : List Row) (i : ℕ) (r : Row) : Type 0 where
  at_block : word (copy_words e rs) (3 * (i - 1)) ≡ r.copy.block
  at_low : word (copy_words e rs) (3 * (i - 1) + 1) ≡ r.copy.low
  at_first : word (copy_words e rs) (3 * (i - 1) + 2) ≡ first_edge (start_of e rs i) r.target_words

written : (e : ℕ) (rs : List Row) (i : ℕ) (r : Row) → chosen rs i ≡ some r → Written e rs i r
unfolding chosen start_of copy_words
written e rs zero r q = absurd (none-ne-some r q)
written e [] (suc i) r q = absurd (none-ne-some r q)
written e (x ∷ rs) (suc zero) r q =
    let s : x ≡ r = some-injective x r q in
    record { at_block = ap (λ z. z.copy.block) s; at_low = ap (λ z. z.copy.low) s; at_first = ap (λ z. first_edge e z.target_words) s }
written e (x ∷ rs) (suc (suc i)) r q =
    let h = written (e + length x.target_words) rs (suc i) r q in
    let p₀ : 3 * (suc (suc i) - 1) ≡ suc (suc (suc (3 * (suc i - 1)))) = omega arith in
    let p₁ : 3 * (suc (suc i) - 1) + 1 ≡ suc (suc (suc (3 * (suc i - 1) + 1))) = omega arith in
    let p₂ : 3 * (suc (suc i) - 1) + 2 ≡ suc (suc (suc (3 * (suc i - 1) + 2))) = omega arith in
    record { at_block = rw p₀ h.at_block; at_low = rw p₁ h.at_low; at_first = rw p₂ h.at_first }

-- THE EDGES

pub edge_records-length : (e : ℕ) (ts : List ℕ) → length (edge_records e ts) ≡ 2 * length ts
unfolding edge_records
edge_records-length e [] = refl
edge_records-length e (t ∷ ts) = let h = edge_records-length (suc e) ts in omega arith

pub edge_words-length : (e : ℕ) (rs : List Row) → length (edge_words e rs) ≡ 2 * edge_count rs
unfolding edge_words edge_count
edge_words-length e [] = refl
edge_words-length e (r ∷ rs) =
    let n = e + length r.target_words in
    let p = length-append (edge_records e r.target_words) (edge_words n rs) in
    omega (arith, edge_records-length e r.target_words, edge_words-length n rs)

-- the edge words from the first edge of the i-th row on begin with that row's records
record Splits (e : ℕ) (rs : List Row) (s : ℕ) (r : Row) : Type 0 where
  rest : List ℕ
  begins : drop (2 * (s - e)) (edge_words e rs) ≡ edge_records s r.target_words ++ rest
  after : e ≤ s

splits : (e : ℕ) (rs : List Row) (i : ℕ) (r : Row) → chosen rs i ≡ some r → Splits e rs (start_of e rs i) r
unfolding chosen start_of edge_words
splits e rs zero r q = absurd (none-ne-some r q)
splits e [] (suc i) r q = absurd (none-ne-some r q)
splits e (x ∷ rs) (suc zero) r q =
    let p : 2 * (e - e) ≡ 0 = omega arith in
    let s : x ≡ r = some-injective x r q in
    let rest = edge_words (e + length x.target_words) rs in
    record { rest = rest; begins = rw p (ap (λ z. edge_records e z.target_words ++ rest) s); after = omega arith }
splits e (x ∷ rs) (suc (suc i)) r q =
    let n = e + length x.target_words in
    let h = splits n rs (suc i) r q in
    let p : 2 * (start_of n rs (suc i) - e) ≡ length (edge_records e x.target_words) + 2 * (start_of n rs (suc i) - n)
    = omega (arith, h.after, edge_records-length e x.target_words) in
    record {
      rest = h.rest;
      begins = rw (p, drop-append-add) h.begins;
      after = omega (arith, h.after);
    }

two : (w : List ℕ) (i x y : ℕ) (l : List ℕ) → drop i w ≡ x ∷ y ∷ l → (word w (i + 0) ≡ x) × (word w (i + 1) ≡ y) × (drop (i + 2) w ≡ l)
two w i x y l e =
    (sym (get_or-drop i w 0 0) ∙ ap (λ z. word z 0) e, sym (get_or-drop i w 1 0) ∙ ap (λ z. word z 1) e, sym (drop-drop 2 i w) ∙ ap (drop 2) e)

-- a chain reads as the edges and the targets that it was written from
module _ (h : Heading) (w : List ℕ) where
  -- where edge e's record begins
  abbrev pub edge_place : ℕ → ℕ
  edge_place e = h.records + 3 * h.copies + 2 * (e - 1)

  chain-reads : (ts rest : List ℕ) (k e : ℕ) → length ts ≤ k → drop (edge_place (suc e)) w ≡ edge_records (suc e) ts ++ rest
      → (follow (next_at h w) k (first_edge (suc e) ts) ≡ from (suc e) (length ts)) × (map (target_at h w) (from (suc e) (length ts)) ≡ ts)
  unfolding follow first_edge edge_records from
  chain-reads [] rest zero e l d = (refl, refl)
  chain-reads [] rest (suc k) e l d = (refl, refl)
  chain-reads (t ∷ ts) rest zero e l d = absurd (omega arith)
  chain-reads (t ∷ ts) rest (suc k) e l d =
      let r = two w (edge_place (suc e)) t (first_edge (suc (suc e)) ts) (edge_records (suc (suc e)) ts ++ rest) d in
      let q : edge_place (suc e) + 2 ≡ edge_place (suc (suc e)) = omega arith in
      let n = chain-reads ts rest k (suc e) (omega arith) (rw q at r.2) in
      (ap (λ (x : List ℕ). suc e ∷ x) (ap (follow (next_at h w) k) r.1 ∙ n.0), ap₂ (λ x xs. x ∷ xs) r.0 n.1)

  chain-at : (ts rest : List ℕ) (k e : ℕ) → 1 ≤ e → length ts ≤ k → drop (edge_place e) w ≡ edge_records e ts ++ rest
      → (follow (next_at h w) k (first_edge e ts) ≡ from e (length ts)) × (map (target_at h w) (from e (length ts)) ≡ ts)
  chain-at ts rest k zero p l d = absurd (omega arith)
  chain-at ts rest k (suc e) p l d = chain-reads ts rest k e l d

-- every row's targets are counted
pub counted : (rs : List Row) (i : ℕ) (r : Row) → chosen rs i ≡ some r → length r.target_words ≤ edge_count rs
unfolding chosen edge_count
counted rs zero r q = absurd (none-ne-some r q)
counted [] (suc i) r q = absurd (none-ne-some r q)
counted (x ∷ rs) (suc zero) r q = let s : x ≡ r = some-injective x r q in rw s (omega arith)
counted (x ∷ rs) (suc (suc i)) r q = omega (arith, counted rs (suc i) r q)

-- a sheet that is laid out from rows, behind any header
pub record Laid (h : Heading) (w : List ℕ) (rs : List Row) : Type 0 where
  pub front : List ℕ
  pub words : w ≡ front ++ record_words rs
  pub records : h.records ≡ length front
  pub copies : h.copies ≡ length rs
  pub edges : h.edges ≡ edge_count rs

-- the length of its records, and its own by its header
pub records-length : (rs : List Row) → length (record_words rs) ≡ 3 * length rs + 2 * edge_count rs
records-length rs = omega (arith, length-append (copy_words 1 rs) (edge_words 1 rs), copy_words-length 1 rs, edge_words-length 1 rs)

pub laid-length : {h : Heading} {w : List ℕ} {rs : List Row} → Laid h w rs → length w ≡ bounded_length h
laid-length {rs = rs} L =
    ap length L.words
    ∙ omega (arith, length-append L.front (record_words rs), records-length rs, L.records, L.copies, L.edges)

-- what its i-th row reads as
pub record Reads (h : Heading) (w : List ℕ) (rs : List Row) (i : ℕ) (r : Row) : Type 0 where
  pub block : block_at h w i ≡ r.copy.block
  pub low : low_at h w i ≡ r.copy.low
  pub first : first_at h w i ≡ first_edge (start_of 1 rs i) r.target_words
  pub chain : chain_at h w i ≡ from (start_of 1 rs i) (length r.target_words)
  pub targets : targets_at h w i ≡ r.target_words

module _ (h : Heading) (w : List ℕ) (rs : List Row) (L : Laid h w rs) where
  -- a word of the copy records, and the edge records
  in-copies : (j n : ℕ) → n ≡ h.records + j → j < 3 * length rs → word w n ≡ word (copy_words 1 rs) j
  in-copies j n e l =
      let c = copy_words 1 rs in
      let p : n ≡ length L.front + j = omega (arith, L.records) in
      let q : j < length c = omega (arith, copy_words-length 1 rs) in
      rw (L.words, p) (get_or-append-add L.front (c ++ edge_words 1 rs) j 0 ∙ get_or-append c (edge_words 1 rs) 0 j q)

  in-edges : (j n : ℕ) → n ≡ h.records + 3 * h.copies + j → drop n w ≡ drop j (edge_words 1 rs)
  in-edges j n e =
      let c = copy_words 1 rs in
      let p : n ≡ length L.front + (length c + j) = omega (arith, L.records, L.copies, copy_words-length 1 rs) in
      rw (L.words, p) (drop-append-add L.front (c ++ edge_words 1 rs) (length c + j) ∙ drop-append-add c (edge_words 1 rs) j)

  pub reads : (i : ℕ) (r : Row) → chosen rs i ≡ some r → Reads h w rs i r
  unfolding chain_at targets_at
  reads i r q =
      let m = chosen-le rs i r q in
      let v = written 1 rs i r q in
      let s = splits 1 rs i r q in
      let first : word w (h.records + 3 * (i - 1) + 2) ≡ first_edge (start_of 1 rs i) r.target_words
      = in-copies (3 * (i - 1) + 2) _ (omega arith) (omega (arith, m)) ∙ v.at_first in
      let c = chain-at h w r.target_words s.rest (suc h.edges) (start_of 1 rs i) s.after
      (omega (arith, L.edges, counted rs i r q))
      (in-edges (2 * (start_of 1 rs i - 1)) _ refl ∙ s.begins) in
      let chain : follow (next_at h w) (suc h.edges) (word w (h.records + 3 * (i - 1) + 2)) ≡ from (start_of 1 rs i)
      (length r.target_words)
      = ap (follow (next_at h w) (suc h.edges)) first ∙ c.0 in
      record {
        block = in-copies (3 * (i - 1)) _ (omega arith) (omega (arith, m)) ∙ v.at_block;
        low = in-copies (3 * (i - 1) + 1) _ (omega arith) (omega (arith, m)) ∙ v.at_low;
        first = first;
        chain = chain;
        targets = ap (map (target_at h w)) chain ∙ c.1;
      }

  -- the edge records of a row stand together
  part : (ts rest : List ℕ) (f e n : ℕ) → f ≡ first_edge e ts → n ≡ length ts → drop (edge_place h w e) w ≡ edge_records e ts ++ rest
      → take (2 * n) (drop (edge_place h w f) w) ≡ edge_records f ts
  unfolding first_edge edge_records
  part [] rest f e n p l d = let z : 2 * n ≡ 0 = omega arith in rw z
  part (t ∷ ts) rest f e n p l d =
      rw (p, d) (take_at (edge_records e (t ∷ ts)) rest (2 * n) (edge_records-length e (t ∷ ts) ∙ omega arith))

  pub part-reads : (i : ℕ) (r : Row) → chosen rs i ≡ some r
      → take (2 * length (chain_at h w i)) (drop (edge_place h w (first_at h w i)) w) ≡ edge_records (first_at h w i) (targets_at h w i)
  part-reads i r q =
      let m = reads i r q in
      let s = splits 1 rs i r q in
      let n : length (chain_at h w i) ≡ length r.target_words
      = ap length m.chain ∙ from-length (length r.target_words) (start_of 1 rs i) in
      part r.target_words s.rest (first_at h w i) (start_of 1 rs i) (length (chain_at h w i)) m.first n
      (in-edges (2 * (start_of 1 rs i - 1)) _ refl ∙ s.begins)
      ∙ ap (edge_records (first_at h w i)) (sym m.targets)

-- a written sheet is laid out behind its own header
pub laid : (p : Preface) (rs : List Row) → Proper p → 1 ≤ length rs → Laid (heading (sheet_words p rs)) (sheet_words p rs) rs
unfolding sheet_words
laid p rs P l =
    let c = (header-reads p rs P l).counts in
    record {
      front = heading_words p.second p.budgets p.entries (length rs) (edge_count rs);
      words = refl;
      records = ap (λ (h : Heading). h.records) c;
      copies = ap (λ (h : Heading). h.copies) c;
      edges = ap (λ (h : Heading). h.edges) c;
    }

-- EVERY EDGE, in order

pub from-append : (m n a : ℕ) → from a (m + n) ≡ from a m ++ from (a + m) n
unfolding from
from-append zero n a =
    let p : 0 + n ≡ n = omega arith in
    let q : a + 0 ≡ a = omega arith in
    rw (p, q)
from-append (suc m) n a =
    let p : suc m + n ≡ suc (m + n) = omega arith in
    let q : a + suc m ≡ suc a + m = omega arith in
    rw (p, q) (ap (λ (l : List ℕ). a ∷ l) (from-append m n (suc a)))

each_from : (rs : List Row) (e n : ℕ) (f : ℕ → List ℕ)
    → ((i : ℕ) (r : Row) → chosen rs (suc i) ≡ some r → f (n + i) ≡ from (start_of e rs (suc i)) (length r.target_words))
    → each f (from n (length rs)) ≡ from e (edge_count rs)
unfolding each from edge_count start_of chosen
each_from [] e n f h = refl
each_from (r ∷ rs) e n f h =
    let k = length r.target_words in
    let p : n + 0 ≡ n = omega arith in
    let x : f n ≡ from e k = rw p at (h 0 r refl) in
    let y = each_from rs (e + k) (suc n) f (λ i q z. let s : suc n + i ≡ n + suc i = omega arith in rw s (h (suc i) q z)) in
    ap₂ (λ a b. a ++ b) x y ∙ sym (from-append k (edge_count rs) e)

pub met : (h : Heading) (w : List ℕ) (rs : List Row) → Laid h w rs → each (chain_at h w) (from 1 h.copies) ≡ from 1 h.edges
met h w rs L =
    ap (λ (n : ℕ). each (chain_at h w) (from 1 n)) L.copies
    ∙ each_from rs 1 1 (chain_at h w) (λ i r q. let p : 1 + i ≡ suc i = omega arith in rw p (reads h w rs L (suc i) r q).chain)
    ∙ sym (ap (from 1) L.edges)
