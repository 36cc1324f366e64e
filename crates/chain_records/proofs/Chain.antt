-- The edge records of one copy, put edge by edge: what is put, then the records of the edges left, are the records of its chain.
-- Rests on theory Copies, put_words Put.
use mathlib.Core.Path.{◌≡◌, refl, sym, ap, ap₂, ◌∙◌}
use mathlib.Core.Bool.{true}
use mathlib.Core.List.{List, [], ◌∷◌, map}
use Prim.Native.Nat.{ℕ, suc, ◌+◌, ◌-◌, ◌*◌, ◌≤◌, ◌<◌}
use native.Mathlib.Omega.{arith}
use lib.ListN.{length, get_or, drop, length-map, length-drop}
use lib.Seq.{drop-cons}
use Rattle.base.specs.Copy.{Copy, copy_of}
use Rattle.theory.specs.Completions.{Graph}
use Rattle.theory.proofs.Completions.{covers, completes-sound}
use Rattle.theory.specs.Copies.{copy_for, targets, target_number}
use Rattle.formats.specs.BoundedSheet.{first_edge, edge_records}
use Rattle.calls.specs.SheetGraph.{row_of}
use Rattle.graph_row.specs.GraphRow.{graph_in, Flat}
use Rattle.tables.specs.Tables.{marked}
use Rattle.chain_records.specs.Marked.{Marked}
use Rattle.put_words.specs.Put.{put_words}
use Rattle.put_words.proofs.Put.{put-none, put-length, put-more}

-- the first edge of none, and of some
pub first-none : (e : ℕ) (ts : List ℕ) → length ts ≡ 0 → 0 ≡ first_edge e ts
unfolding first_edge
first-none e [] z = refl
first-none e (t ∷ ts) z = absurd (omega arith)

pub first_some : (e : ℕ) (ts : List ℕ) → (length ts ≡ 0 → ⊥) → e ≡ first_edge e ts
unfolding first_edge
first_some e [] n = absurd (n refl)
first_some e (t ∷ ts) n = refl

-- the low of a marked copy covers the cost of its block
pub low-covers : {row : List ℕ} {n b : ℕ} {marks : List ℕ} → Flat row → Marked (graph_in row) n b marks → {v l : ℕ} → 1 ≤ v
    → v ≤ n → l ≤ b → marked b marks v l ≡ true → (graph_in row).cost v ≤ l
low-covers {row} F M {v} {l} p q r m = covers (graph_in row) F.laws (completes-sound (graph_in row) F.laws v l (M.serves v l p q r m))

-- the numbers of successors with r cycles left
abbrev pub words : Graph → List Copy → ℕ → List ℕ → List ℕ
words g cs r ts = map (target_number cs) (map (copy_for g r) ts)

-- where edge n stands
abbrev pub place : ℕ → ℕ → ℕ
place at n = at + 2 * (n - 1)

-- i edges to the successors ts are put, from edge e on
pub record Walked (g : Graph) (cs : List Copy) (r : ℕ) (ts o₀ o : List ℕ) (at e i n : ℕ) : Type 0 where
  pub least : 1 ≤ e
  pub edge : n ≡ e + i
  pub upto : i ≤ length ts
  pub same : length o ≡ length o₀
  pub room : at + 2 * (e + length ts) ≤ length o + 2
  pub written : put_words o (place at (e + i)) (edge_records (e + i) (words g cs r (drop i ts)))
      ≡ put_words o₀ (place at e) (edge_records e (words g cs r ts))

pub walked_start : (g : Graph) (cs : List Copy) (r : ℕ) (ts o : List ℕ) (at e : ℕ) → 1 ≤ e → at + 2 * (e + length ts) ≤ length o + 2
    → Walked g cs r ts o o at e 0 e
walked_start g cs r ts o at e p l =
    let z : e + 0 ≡ e = omega arith in
    record {
      least = p;
      edge = sym z;
      upto = omega arith;
      same = refl;
      room = l;
      written = ap (λ (n : ℕ). put_words o (place at n) (edge_records n (words g cs r ts))) z;
    }

module _ {g : Graph} {cs : List Copy} {r : ℕ} {ts o₀ o : List ℕ} {at e i n : ℕ} (W : Walked g cs r ts o₀ o at e i n) where
  -- ONE EDGE, to t, whose words are x and f
  pub walked_on : (l : i < length ts) {t x f : ℕ} {o' : List ℕ} → t ≡ get_or ts i 0 → x ≡ target_number cs (copy_for g r t)
      → ((us : List ℕ) → length us ≡ e + length ts - (n + 1) → f ≡ first_edge (n + 1) us)
      → o' ≡ put_words o (at + 2 * (n + 1 - 2)) (x ∷ f ∷ []) → Walked g cs r ts o₀ o' at e (i + 1) (n + 1)
  unfolding edge_records
  walked_on l {t} {x} {f} {o'} q j k c =
      let us = words g cs r (drop (suc i) ts) in
      let s : drop i ts ≡ t ∷ drop (suc i) ts
      = drop-cons ts i 0 l ∙ ap (λ (t : ℕ). t ∷ drop (suc i) ts) (sym q) in
      let m : length us ≡ e + length ts - (n + 1)
      = length-map (map (copy_for g r) (drop (suc i) ts)) _ ∙ length-map (drop (suc i) ts) _ ∙ omega (arith, length-drop (suc i) ts, W.edge) in
      let n₁ : suc (e + i) ≡ n + 1 = omega (arith, W.edge) in
      let n₂ : e + (i + 1) ≡ n + 1 = omega (arith, W.edge) in
      let n₃ : at + 2 * (n + 1 - 2) ≡ place at (e + i) = omega (arith, W.edge, W.least) in
      let i₁ : i + 1 ≡ suc i = omega arith in
      let c₁ : o' ≡ put_words o (place at (e + i)) (x ∷ f ∷ []) = c ∙ ap (λ (k : ℕ). put_words o k (x ∷ f ∷ [])) n₃ in
      let y : edge_records (e + i) (words g cs r (drop i ts)) ≡ x ∷ f ∷ edge_records (n + 1) us
      = ap (λ (ts : List ℕ). edge_records (e + i) (words g cs r ts)) s
      ∙ ap₂ (λ (x n : ℕ). x ∷ first_edge n us ∷ edge_records n us) (sym j) n₁
      ∙ ap (λ (f : ℕ). x ∷ f ∷ edge_records (n + 1) us) (sym (k us m)) in
      let p : length o' ≡ length o
      = ap length c₁ ∙ put-length o (place at (e + i)) (x ∷ f ∷ []) (omega (arith, W.room, W.least)) in
      record {
        least = W.least;
        edge = sym n₂;
        upto = omega arith;
        same = p ∙ W.same;
        room = omega (arith, W.room);
        written =
            ap₂ (λ (n k : ℕ). put_words o' (place at n) (edge_records n (words g cs r (drop k ts)))) n₂ i₁
            ∙ ap (λ (o : List ℕ). put_words o (place at (n + 1)) (edge_records (n + 1) us)) c₁
            ∙ put-more o (place at (e + i)) (x ∷ f ∷ []) (edge_records (n + 1) us) _ (omega (arith, W.room, W.least))
            (omega (arith, W.least, W.edge))
            ∙ ap (put_words o (place at (e + i))) (sym y) ∙ W.written;
      }

  -- THE END
  pub walked_end : length ts ≤ i → o ≡ put_words o₀ (place at e) (edge_records e (words g cs r ts))
  unfolding edge_records
  walked_end h =
      sym (put-none o (place at (e + i)))
      ∙ ap (λ (ts : List ℕ). put_words o (place at (e + i)) (edge_records (e + i) (words g cs r ts)))
      (sym (empty (drop i ts) (omega (arith, length-drop i ts))))
      ∙ W.written
    where
      empty : (ts : List ℕ) → length ts ≡ 0 → ts ≡ []
      empty [] i = refl
      empty (t ∷ ts) i = absurd (omega arith)

-- the words of a chain are those of the copy's row
pub chain_words : (g : Graph) (cs : List Copy) (v l : ℕ) → words g cs (l - g.cost v) (g.next v) ≡ (row_of g cs (copy_of v l)).target_words
unfolding row_of targets
chain_words g cs v l = refl
