-- A build in rows that are long enough, with no handler's cost: its answer is never 21, 22 or 43, and under 0 the output row begins with the bounded
-- sheet. Rests on base Orders, formats Reading, Accepted, Handler and RuleRead, calls Weigh, Built, Area and Demand, tables Places, specs Front.
use mathlib.Core.Path.{◌≡◌, refl, sym, ap, ◌∙◌}
use mathlib.Core.Bool.{Bool, true, false}
use mathlib.Core.List.{List, [], ◌∷◌, map}
use Prim.Native.Nat.{ℕ, ◌+◌, ◌*◌, ◌≤◌, ◌<◌}
use native.Mathlib.Omega.{arith}
use native.Mathlib.Decide.{ℕ_discrete}
use borrow.Author.Tests.{ltb-false, le-ltb}
use lib.Dec.{ltb, eqb}
use lib.ListN.{length, take, drop, length-append, length-map, get_or-append}
use Rattle.base.specs.Checks.{Order, refused, lent_after}
use Rattle.base.proofs.Truth.{or-false}
use Rattle.base.proofs.Orders.{pick, tested, none_left, append-stops, append-passes, over-stops, over-passes}
use Rattle.formats.specs.Limits.{most_budgets, most_copies, most_bounded_edges, most_cells}
use Rattle.formats.specs.Words.{word}
use Rattle.formats.specs.Versions.{is_second}
use Rattle.formats.specs.GraphSheet.{header, sheet_order, sheet_refusal, handled_order, handled_refusal}
use Rattle.formats.specs.BoundedSheet.{edge_count, record_words, heading_words, sheet_words, heading, bounded_length}
use Rattle.formats.specs.Rule11.{bounded_refusal}
use Rattle.formats.proofs.Accepted.{graph-numbered}
use Rattle.formats.proofs.Handler.{handled-zero, accepted-with}
use Rattle.formats.proofs.Reading.{records-length}
use Rattle.formats.proofs.RuleRead.{read-ruled}
use Rattle.theory.specs.Tasks.{copies_in}
use Rattle.calls.specs.SheetGraph.{graph, task, row_of, rows_of, entry_for, bounded_sheet}
use Rattle.calls.specs.Area.{area_size}
use Rattle.calls.specs.Weigh.{Weighing, handled, task_area, nothing_fits, area_order, fit_order, front_order, weigh_order}
use Rattle.calls.specs.Build.{Lent, weighing, too_many, copy_count, edge_total, too_large, small_output, build_order, output_after, build}
use Rattle.calls.specs.Program.{listing_order}
use Rattle.calls.proofs.Weigh.{front-numbered, weigh-numbered, front-is as area-passes}
use Rattle.calls.proofs.Built.{keeps-rule}
use Rattle.calls.proofs.Area.{output-words}
use Rattle.calls.proofs.Demand.{buildable}
use Rattle.tables.proofs.Places.{few-cells, count_code}
use Rattle.front.specs.Front.{most_words, front_sheet}

-- THE LENGTH of a header, in both versions
heading-most : (v : Bool) (bs es : List ℕ) (c f : ℕ) → length es ≡ length bs → length bs ≤ most_budgets
    → length (heading_words v bs es c f) ≤ 4 + 2 * most_budgets
unfolding heading_words
heading-most true bs es c f e l = omega (arith, length-append bs es)
heading-most false bs es c f e l = omega arith

-- few enough copies and edges fit the row
words-fit : (w : List ℕ) → handled_refusal w 0 ≡ 0 → too_large (task w 0) ≡ false → length (bounded_sheet w 0) ≤ most_words
unfolding too_many bounded_sheet sheet_words rows_of
words-fit w ok e =
    let p = or-false (ltb most_copies (copy_count (task w 0))) (ltb most_bounded_edges (edge_total (task w 0))) e in
    let bs = (task w 0).budgets in
    let es = map (entry_for (task w 0)) bs in
    let cs = copies_in (task w 0) in
    let rs = rows_of (graph w) cs in
    omega (
      arith,
      length-append (heading_words (is_second w) bs es (length rs) (edge_count rs)) (record_words rs),
      heading-most (is_second w) bs es (length rs) (edge_count rs) (length-map bs (entry_for (task w 0))) (accepted-with w 0 ok).claims.count.1,
      records-length rs,
      length-map cs (row_of (graph w) cs),
      ltb-false most_copies (copy_count (task w 0)) p.0,
      ltb-false most_bounded_edges (edge_total (task w 0)) p.1,
    )

-- THE LENGTH that a header says goes by its first four words
same_length : (v w : List ℕ) → ((i : ℕ) → i < 4 → word v i ≡ word w i) → bounded_length (heading v) ≡ bounded_length (heading w)
unfolding heading is_second
same_length v w same = go (is_second w) refl
  where
    version : is_second v ≡ is_second w
    version = ap (λ (x : ℕ). eqb x 0) (same 0 (omega arith))

    go : (b : Bool) → is_second w ≡ b → bounded_length (heading v) ≡ bounded_length (heading w)
    go true e = rw (version ∙ e, e, heading) (omega (arith, same 1 (omega arith), same 2 (omega arith), same 3 (omega arith)))
    go false e = rw (version ∙ e, e, heading) (omega (arith, same 0 (omega arith), same 1 (omega arith)))

module _ (w area out : List ℕ) where
  abbrev lent : Lent
  lent = record { sheet = w; handler = 0; area = area; output = out }

  abbrev given : Weighing
  given = record { sheet = w; handler = 0; area = area }

  -- THE ANSWER
  module _ (wide : most_cells ≤ length area) (long : most_words ≤ length out) where
    -- 1 to 8, and never 43
    by-sheet : (handled_refusal w 0 ≡ 0 → ⊥) → refused build_order lent ≡ refused listing_order w
    unfolding handled_refusal sheet_refusal front_order weigh_order build_order listing_order
    by-sheet n =
        let a = over-stops handled handled_order area_order given n in
        let b = append-stops front_order fit_order given (λ e. n (sym a ∙ e)) ∙ a in
        over-stops weighing weigh_order _ lent (λ e. n (sym b ∙ e)) ∙ b ∙ handled-zero w
        ∙ sym (append-stops sheet_order _ w (λ e. n (handled-zero w ∙ e)))

    module _ (ok : handled_refusal w 0 ≡ 0) where
      -- no 21
      pub area-fits : task_area (task w 0) ≤ length area
      unfolding task_area area_size
      area-fits =
          let A = accepted-with w 0 ok in
          let n = (header w).blocks in
          let b = (task w 0).largest in
          omega (arith, few-cells n b A.sheet.sound.form.blocks.1 A.budget, count_code n b)

      no-22 : too_large (task w 0) ≡ false → small_output w 0 out ≡ false
      unfolding small_output
      no-22 e = le-ltb (length out) (length (bounded_sheet w 0)) (omega (arith, words-fit w ok e))

      -- 9
      weighs : {b : Bool} → nothing_fits (task w 0) ≡ b → refused weigh_order given ≡ pick b 9 0
      unfolding weigh_order
      weighs e =
          append-passes front_order fit_order given front-numbered (area-passes w 0 area ok area-fits)
          ∙ tested 9 _ [] given e (none_left given)

      lists : {b c : Bool} → nothing_fits (task w 0) ≡ b → too_large (task w 0) ≡ c → refused listing_order w ≡ pick b 9 (pick c 10 0)
      unfolding sheet_refusal listing_order
      lists e f =
          append-passes sheet_order _ w graph-numbered (sym (handled-zero w) ∙ ok)
          ∙ tested 9 (λ w. nothing_fits (task w 0)) _ w e (tested 10 _ _ w f (none_left w))

      -- 10 and 22
      abbrev behind : Order Lent
      behind = (10, λ i. too_large (task i.sheet i.handler)) ∷ (22, λ i. small_output i.sheet i.handler i.output) ∷ []

      counts : (c : Bool) → too_large (task w 0) ≡ c → refused behind lent ≡ pick c 10 0
      counts true f = tested 10 _ _ lent f refl
      counts false f = tested 10 _ _ lent f (tested 22 _ _ lent (no-22 f) (none_left lent))

      by-counts : refused build_order lent ≡ refused listing_order w
      unfolding build_order
      by-counts = go (nothing_fits (task w 0)) (too_large (task w 0)) refl refl
        where
          go : (b c : Bool) → nothing_fits (task w 0) ≡ b → too_large (task w 0) ≡ c → refused build_order lent ≡ refused listing_order w
          go true c e f =
              let nine = weighs e in
              over-stops weighing weigh_order behind lent (λ z. omega (arith, nine)) ∙ nine ∙ sym (lists e f)
          go false c e f = over-passes weighing weigh_order behind lent weigh-numbered (weighs e) ∙ counts c f ∙ sym (lists e f)

    pub list-answer : (build lent).answer ≡ refused listing_order w
    unfolding build
    list-answer = go (ℕ_discrete (handled_refusal w 0) 0)
      where
        go : Dec (handled_refusal w 0 ≡ 0) → refused build_order lent ≡ refused listing_order w
        go (yes ok) = by-counts ok
        go (no n) = by-sheet n

  -- UNDER 0, of the output row as it was left
  module _ (filled : List ℕ) (q : filled ≡ (build lent).output) (e : (build lent).answer ≡ 0) where
    filled_is : filled ≡ output_after w 0 0 out
    unfolding build
    filled_is = q ∙ ap (λ (a : ℕ). output_after w 0 a out) e

    -- the sheet keeps rule 11
    sheet-kept : bounded_refusal (bounded_sheet w 0) ≡ 0
    sheet-kept = keeps-rule w 0 (buildable lent e)

    -- the row begins with it, and has its header
    size_is : bounded_length (heading filled) ≡ length (bounded_sheet w 0)
    unfolding lent_after output_after
    size_is =
        let s = bounded_sheet w 0 in
        let F = (read-ruled s sheet-kept refl).form in
        ap (λ (o : List ℕ). bounded_length (heading o)) filled_is
        ∙ same_length _ s (λ i l. get_or-append s (drop (length s) out) 0 i (omega (arith, F.size, F.copies)))
        ∙ sym F.size

    pub front-is : front_sheet filled ≡ bounded_sheet w 0
    front-is =
        ap (λ (n : ℕ). take n filled) size_is ∙ ap (take (length (bounded_sheet w 0))) filled_is ∙ output-words w 0 out

    pub front_fits : bounded_length (heading filled) ≤ length filled
    unfolding lent_after output_after
    front_fits = omega (arith, size_is, ap length filled_is, length-append (bounded_sheet w 0) (drop (length (bounded_sheet w 0)) out))

    pub front_kept : bounded_refusal (front_sheet filled) ≡ 0
    front_kept = ap bounded_refusal front-is ∙ sheet-kept
