-- The records of the copies, put copy by copy: what is put, then the records of the copies left, are the records of all.
-- Rests on formats Reading, tables Rows and Rest, put_words Put, chain_records Marked.
use mathlib.Core.Path.{◌≡◌, refl, sym, ap, ap₂, subst, ◌∙◌}
use mathlib.Core.Bool.{true}
use mathlib.Core.List.{List, [], ◌∷◌, ◌++◌, map, Memᴰ}
use Prim.Native.Nat.{ℕ, suc, ◌+◌, ◌*◌, ◌/◌, ◌%◌, ◌≤◌, ◌<◌}
use native.Mathlib.Omega.{arith}
use lib.ListN.{length, length-append, length-map}
use Rattle.base.specs.Copy.{Copy, copy_of}
use Rattle.base.specs.Cells.{cell_count, is_set}
use Rattle.base.specs.Lists.{from}
use Rattle.base.proofs.Cells.{one_cell}
use Rattle.base.proofs.Lists.{keep-e, from-e}
use Rattle.theory.specs.Completions.{Graph}
use Rattle.formats.specs.Limits.{most_blocks, most_budget, most_cells, most_bounded_edges}
use Rattle.formats.specs.BoundedSheet.{Row, first_edge, edge_records, copy_words, edge_words, record_words}
use Rattle.formats.proofs.Reading.{copy_words-length, edge_records-length, edge_words-length}
use Rattle.calls.specs.SheetGraph.{row_of, rows_of}
use Rattle.tables.specs.Tables.{marked, marked_copies}
use Rattle.tables.specs.Rows.{edges_of}
use Rattle.tables.specs.Scan.{IsCell, set_from, copy_at}
use Rattle.tables.proofs.Rows.{row-length, edges_are}
use Rattle.tables.proofs.Places.{code-cell, cell-block, few-cells, count_code}
use Rattle.tables.proofs.Rest.{mark_of}
use Rattle.tables.proofs.SetCells.{copies-set}
use Rattle.put_words.specs.Put.{put_words}
use Rattle.put_words.proofs.Put.{put-none, put-length, put-more}

-- the words that a row adds, where its edges are numbered from e
unfoldable pub copy_record : ℕ → Row → List ℕ
copy_record e r = r.copy.block ∷ r.copy.low ∷ first_edge e r.target_words ∷ []

unfoldable pub edge_record : ℕ → Row → List ℕ
edge_record e r = edge_records e r.target_words

module _ (one : ℕ → Row → List ℕ) where
  unfoldable pub records_from : ℕ → List Row → List ℕ
  records_from e [] = []
  records_from e (r ∷ rs) = one e r ++ records_from (e + length r.target_words) rs

  module _ (g : Graph) (n b : ℕ) (marks : List ℕ) where
    abbrev cs : List Copy
    cs = marked_copies n b marks

    -- the words of the copies at some cells, and of all
    abbrev left : ℕ → List ℕ → List ℕ
    left e xs = records_from e (map (row_of g cs) (map (copy_at b) xs))

    abbrev all : List ℕ
    all = records_from 1 (rows_of g cs)

    -- A LOOP over the copies: those at the cells xs are left, their edges are numbered from e, and their words go to at
    pub record Written (o₀ : List ℕ) (at₀ : ℕ) (o : List ℕ) (at e : ℕ) (xs : List ℕ) : Type 0 where
      pub here : (x : ℕ) → Memᴰ x xs → (x < cell_count n b) × (is_set marks x ≡ true)
      pub few : edges_of g cs ≤ most_bounded_edges
      pub least : 1 ≤ e
      pub same : length o ≡ length o₀
      pub count : e + edges_of g (map (copy_at b) xs) ≡ suc (edges_of g cs)
      pub room : at + length (left e xs) ≤ length o
      pub words : put_words o at (left e xs) ≡ put_words o₀ at₀ all

  module _ {g : Graph} {n b : ℕ} {marks : List ℕ} where
    pub written_start : {xs : List ℕ} → xs ≡ set_from marks 0 (cell_count n b) → edges_of g (marked_copies n b marks) ≤ most_bounded_edges
        → (o : List ℕ) (at₀ at : ℕ) → at ≡ at₀ → at₀ + length (all g n b marks) ≤ length o → Written g n b marks o at₀ o at 1 xs
    unfolding rows_of set_from
    written_start {xs} s f o at₀ at z l =
        let k : marked_copies n b marks ≡ map (copy_at b) xs = copies-set n b marks ∙ ap (map (copy_at b)) (sym s) in
        let q : left g n b marks 1 xs ≡ all g n b marks
        = ap (λ (ds : List Copy). records_from 1 (map (row_of g (marked_copies n b marks)) ds)) (sym k) in
        record {
          here = λ x m.
              let i = keep-e (is_set marks) (from 0 (cell_count n b)) (subst (Memᴰ x) s m) in
              (omega (arith, (from-e (cell_count n b) 0 x i.0).1), i.1);
          few = f;
          least = omega arith;
          same = refl;
          count = omega (arith, ap (edges_of g) k);
          room = omega (arith, ap length q);
          words = ap₂ (put_words o) z q;
        }

    module _ {o₀ : List ℕ} {at₀ : ℕ} {o : List ℕ} {at e x : ℕ} {xs : List ℕ} (W : Written g n b marks o₀ at₀ o at e (x ∷ xs)) where
      pub here-few : (n ≤ most_blocks) × (b ≤ most_budget) → x ≤ most_cells
      here-few s = omega (arith, (W.here x (Memᴰ.head refl)).0, few-cells n b s.0 s.1, count_code n b)

      -- one copy, that of the block v with the low l
      module _ {v l : ℕ} (C : IsCell b x v l) where
        pub here-fits : (1 ≤ v) × ((v ≤ n) × (l ≤ b))
        here-fits = (C.block, (cell-block n b x v l C (W.here x (Memᴰ.head refl)).0, C.low))

        pub here-marked : marked b marks v l ≡ true
        here-marked = mark_of n b marks x v l C ∙ (W.here x (Memᴰ.head refl)).1

        copy-is : copy_at b x ≡ copy_of v l
        copy-is =
            let D = code-cell b x in
            let q = one_cell b (x / (b + 1) + 1) (x % (b + 1)) v l D.block C.block D.low C.low (sym D.place ∙ C.place) in
            ap₂ copy_of q.0 q.1

        abbrev record₁ : List ℕ
        record₁ = one e (row_of g (marked_copies n b marks) (copy_of v l))

        abbrev behind : ℕ
        behind = e + length (g.next v)

        split : left g n b marks e (x ∷ xs) ≡ record₁ ++ left g n b marks behind xs
        unfolding records_from
        split =
            ap (λ (c : Copy). records_from e (map (row_of g (marked_copies n b marks)) (c ∷ map (copy_at b) xs))) copy-is
            ∙ ap (λ (d : ℕ). record₁ ++ left g n b marks (e + d) xs) (row-length g (marked_copies n b marks) (copy_of v l))

        edges-on : edges_of g (map (copy_at b) (x ∷ xs)) ≡ length (g.next v) + edges_of g (map (copy_at b) xs)
        unfolding edges_of
        edges-on = ap (λ (c : Copy). edges_of g (c ∷ map (copy_at b) xs)) copy-is

        pub written-fits : (at + length record₁ ≤ length o) × (behind ≤ suc most_bounded_edges)
        written-fits =
            let p = length-append record₁ (left g n b marks behind xs) in
            (omega (arith, W.room, ap length split), omega (arith, W.few, W.count, edges-on))

        pub written_on : {o' : List ℕ} {at' e' : ℕ} → o' ≡ put_words o at record₁ → at' ≡ at + length record₁ → e' ≡ behind
            → Written g n b marks o₀ at₀ o' at' e' xs
        written_on {o'} {at'} {e'} p q s =
            let u = left g n b marks behind xs in
            let y : left g n b marks e' xs ≡ u = ap (λ (e : ℕ). left g n b marks e xs) s in
            let a = length-append record₁ u in
            let z : length o' ≡ length o = ap length p ∙ put-length o at record₁ written-fits.0 in
            record {
              here = λ x m. W.here x (Memᴰ.tail m);
              few = W.few;
              least = omega (arith, W.least);
              same = z ∙ W.same;
              count = omega (arith, W.count, edges-on);
              room = omega (arith, W.room, ap length split, ap length y);
              words =
                  ap₂ (λ (o u : List ℕ). put_words o at' u) p y ∙ put-more o at record₁ u at' (omega (arith, W.room)) q
                  ∙ ap (put_words o at) (sym split) ∙ W.words;
            }

    pub written-end : {o₀ : List ℕ} {at₀ : ℕ} {o : List ℕ} {at e : ℕ} → Written g n b marks o₀ at₀ o at e [] → o ≡ put_words o₀ at₀ (all g n b marks)
    unfolding records_from
    written-end {o = o} {at} W = sym (put-none o at) ∙ W.words

-- THE TWO KINDS OF RECORDS
pub copies-are : (e : ℕ) (rs : List Row) → copy_words e rs ≡ records_from copy_record e rs
unfolding copy_words records_from copy_record
copies-are e [] = refl
copies-are e (r ∷ rs) =
    ap (λ (ws : List ℕ). r.copy.block ∷ r.copy.low ∷ first_edge e r.target_words ∷ ws) (copies-are (e + length r.target_words) rs)

pub chains-are : (e : ℕ) (rs : List Row) → edge_words e rs ≡ records_from edge_record e rs
unfolding edge_words records_from edge_record
chains-are e [] = refl
chains-are e (r ∷ rs) =
    ap (λ (ws : List ℕ). edge_records e r.target_words ++ ws) (chains-are (e + length r.target_words) rs)

module _ (g : Graph) (cs : List Copy) where
  -- three words a copy, two words an edge
  pub copies_length : length (copy_words 1 (rows_of g cs)) ≡ 3 * length cs
  unfolding rows_of
  copies_length = omega (arith, copy_words-length 1 (rows_of g cs), length-map cs (row_of g cs))

  pub edges-length : length (edge_words 1 (rows_of g cs)) ≡ 2 * edges_of g cs
  edges-length = omega (arith, edge_words-length 1 (rows_of g cs), edges_are g cs)

  pub copies-fit : (at n : ℕ) → at + 3 * length cs ≤ n → at + length (records_from copy_record 1 (rows_of g cs)) ≤ n
  copies-fit at n l = omega (arith, ap length (copies-are 1 (rows_of g cs)), copies_length)

  pub edges_fit : (at n : ℕ) → at + 2 * edges_of g cs ≤ n → at + length (records_from edge_record 1 (rows_of g cs)) ≤ n
  edges_fit at n l = omega (arith, ap length (chains-are 1 (rows_of g cs)), edges-length)

  pub records-fit : (at n : ℕ) → at + length (record_words (rows_of g cs)) ≤ n → at + 3 * length cs + 2 * edges_of g cs ≤ n
  records-fit at n l =
      omega (arith, length-append (copy_words 1 (rows_of g cs)) (edge_words 1 (rows_of g cs)), copies_length, edges-length)

  -- one copy's words
  pub copy-put : (o : List ℕ) (at e v l : ℕ) {f : ℕ} {o' : List ℕ} → o' ≡ put_words o at (v ∷ l ∷ f ∷ [])
      → f ≡ first_edge e (row_of g cs (copy_of v l)).target_words → o' ≡ put_words o at (copy_record e (row_of g cs (copy_of v l)))
  unfolding copy_record row_of
  copy-put o at e v l p q = p ∙ ap (λ (f : ℕ). put_words o at (v ∷ l ∷ f ∷ [])) q

  -- the edges behind the copies
  pub records-put : (o : List ℕ) (at n : ℕ) {o₁ o₂ : List ℕ} → n ≡ length cs → at ≤ length o
      → o₁ ≡ put_words o at (copy_words 1 (rows_of g cs)) → o₂ ≡ put_words o₁ (at + 3 * n) (edge_words 1 (rows_of g cs))
      → o₂ ≡ put_words o at (record_words (rows_of g cs))
  records-put o at n e l p q =
      q ∙ ap (λ (o : List ℕ). put_words o (at + 3 * n) (edge_words 1 (rows_of g cs))) p
      ∙ put-more o at (copy_words 1 (rows_of g cs)) (edge_words 1 (rows_of g cs)) (at + 3 * n) l (omega (arith, copies_length))

-- the words of the copy at a cell
pub edge-length : (g : Graph) (cs : List Copy) (e v l : ℕ) → length (edge_record e (row_of g cs (copy_of v l))) ≡ 2 * length (g.next v)
unfolding edge_record
edge-length g cs e v l =
    edge_records-length e (row_of g cs (copy_of v l)).target_words ∙ ap (λ (n : ℕ). 2 * n) (row-length g cs (copy_of v l))
