-- The sheet of an accepted build: it lays its setting's copies out, start copies first, with the entries of its budgets, and keeps rule 11.
-- Rests on formats Budgets, Handler, Headings, RuleKept and WordsFit, SheetLaws, SettingRows.
use mathlib.Core.Path.{◌≡◌, refl, sym, ap, subst, ◌∙◌}
use mathlib.Core.Logic.{◌≢◌, ◌⊎◌, inl, inr, ⊎_elim}
use mathlib.Core.Bool.{Bool, true, false}
use mathlib.Core.List.Memᴰ
use mathlib.Core.List.{List, [], ◌∷◌, map, Memᴰ}
use mathlib.Core.Option.{some}
use Prim.Native.Nat.{ℕ, suc, ◌-◌, ◌≤◌, ◌<◌}
use native.Mathlib.Omega.{arith}
use borrow.Author.Tests.{ltb-true, ltb-false}
use lib.Dec.{ltb}
use lib.ListN.{length, length-map}
use Rattle.base.specs.Lists.{chosen, nth}
use Rattle.base.specs.Copy.{Copy}
use Rattle.base.proofs.Lists.{chosen-mem, chosen-le, chosen-some}
use Rattle.base.proofs.Numbers.{member-some, one-member}
use Rattle.base.proofs.Copies.{before-cases, rising-chosen, number-chosen}
use Rattle.theory.specs.Completions.{low_of}
use Rattle.theory.specs.Copies.{targets, copy_for, target_number}
use Rattle.theory.specs.Setting.{Setting, Entry, copies, start_copy, LaysOut}
use Rattle.theory.proofs.Completions.{low-some}
use Rattle.theory.proofs.Counts.{edge_of}
use Rattle.theory.proofs.Reach.{copy-sound, start-in}
use Rattle.theory.proofs.Agreement.{first-copy}
use Rattle.formats.specs.Limits.{most_copies, most_bounded_edges, word_limit}
use Rattle.formats.specs.Versions.{is_second, budget_count, budgets_in}
use Rattle.formats.specs.GraphSheet.{header, handled_refusal}
use Rattle.formats.specs.BoundedSheet.{Row, Preface, edge_count, Heading, heading, entries_in}
use Rattle.formats.specs.Rule11.{bounded_refusal}
use Rattle.formats.proofs.Budgets.{budgets-there, largest-named}
use Rattle.formats.proofs.Headings.{Proper, HeaderReads, header-reads}
use Rattle.formats.proofs.Handler.{lowered-count, AcceptedWith, accepted-with}
use Rattle.formats.proofs.Reading.{Laid, laid, counted}
use Rattle.formats.proofs.RuleKept.{RowsFit, EntriesFit, Fits, once, fits-rule}
use Rattle.formats.proofs.WordsFit.{words-fit}
use Rattle.calls.specs.SheetGraph.{task, graph, row_of, rows_of, entry_for, preface_for, bounded_sheet, read_bounded}
use Rattle.calls.specs.Build.{copy_count, edge_total}
use Rattle.calls.proofs.SheetLaws.{setting_with}
use Rattle.calls.proofs.SettingRows.{row_at, lays-out, rises, first-copies, starts_in, exit_at, exit-here, rows_fit, entries_fit}

-- what an accepted build says of its graph sheet, with the handler's cost h
pub record Buildable (w : List ℕ) (h : ℕ) : Type 0 where
  pub ok : handled_refusal w h ≡ 0
  pub start : ℕ
  pub opens : low_of (graph w) 1 (task w h).largest ≡ some start
  pub few : copy_count (task w h) ≤ most_copies
  pub edges : edge_total (task w h) ≤ most_bounded_edges

module _ (w : List ℕ) (h : ℕ) (K : Buildable w h) where
  abbrev pub A : AcceptedWith w h
  A = accepted-with w h K.ok

  -- the lowered budgets
  abbrev pub bs : List ℕ
  bs = (task w h).budgets

  abbrev pub setting : Setting
  setting = setting_with (header w) w A.sheet.sound bs A.claims K.start K.opens

  -- the entry of the largest budget
  abbrev pub widest : Entry setting
  widest = record { budget = (task w h).largest; named = largest-named A.claims; low = K.start; fits = K.opens }

  abbrev ds : List Copy
  ds = copies setting

  abbrev rs : List Row
  rs = rows_of (graph w) ds

  abbrev pub preface : Preface
  preface = preface_for (is_second w) (task w h)

  rows_are : length rs ≡ length ds
  unfolding rows_of
  rows_are = length-map ds (row_of (graph w) ds)

  -- the first copy is a start copy, and the exit stands behind it
  pub first-starts : 1 ≤ starts_in setting
  first-starts = let f = first-copy setting in (first-copies setting).1.only 1 f.0 f.1 f.2

  pub last-behind : (starts_in setting < exit_at setting) × (exit_at setting ≤ length ds)
  last-behind =
      let l = chosen-le ds (exit_at setting) _ (exit-here setting) in (
        ⊎_elim (λ p. absurd (let e : ◌≡◌ {A = ℕ} 2 1 = (first-copies setting).1.is (exit_at setting) _ (exit-here setting) p in omega arith)) (λ p. p)
            (either (exit_at setting) (starts_in setting)),
        l.1,
      )
    where
      either : (t k : ℕ) → (t ≤ k) ⊎ (k < t)
      either t k = go (ltb k t) refl
        where
          go : (b : Bool) → ltb k t ≡ b → (t ≤ k) ⊎ (k < t)
          go true e = inr (ltb-true k t e)
          go false e = inl (ltb-false k t e)

  -- at once: the copy behind the start copies is of block 2 at most
  pub exit-behind : exit_at setting ≡ suc (starts_in setting)
  exit-behind =
      let c = chosen-some ds (suc (starts_in setting)) (omega arith) (omega (arith, last-behind)) in
      let n : c.0.block ≢ 1 = λ e. absurd (omega (arith, (first-copies setting).1.only _ c.0 c.1 e)) in
      let l = (copy-sound setting c.0 (chosen-mem ds _ c.0 c.1)).1.place.0 in
      let away : (suc (starts_in setting) < exit_at setting) → ⊥ = λ p.
      ⊎_elim (λ q. omega arith) (λ q. omega (arith, q.1))
      (before-cases c.0 _ (rising-chosen ds (rises setting) _ _ c.0 _ p c.1 (exit-here setting))) in
      go (ltb (suc (starts_in setting)) (exit_at setting)) refl away
    where
      go : (b : Bool) → ltb (suc (starts_in setting)) (exit_at setting) ≡ b → ((suc (starts_in setting) < exit_at setting) → ⊥)
          → exit_at setting ≡ suc (starts_in setting)
      go true e away = absurd (away (ltb-true _ _ e))
      go false e away = omega (arith, last-behind, ltb-false (suc (starts_in setting)) (exit_at setting) e)

  two-rows : 2 ≤ length rs
  two-rows = omega (arith, rows_are, first-starts, last-behind)

  entries : EntriesFit bs (map (entry_for (task w h)) bs) (starts_in setting) rs
  entries = entries_fit setting refl

  proper : Proper preface
  unfolding budget_count
  proper = record {
    same = length-map bs (entry_for (task w h));
    first = λ e.
        let n : budget_count w ≡ 1 = rw (e, budget_count) refl in
        let one : length bs ≡ 1 = lowered-count h (budgets_in w) ∙ budgets-there w A.sheet.there ∙ n in
        (one, one-member _ 1 (length-map bs (entry_for (task w h)) ∙ one) (entries.named 1 (omega arith) first-starts));
  }

  -- in the first version there is one budget, its entry is 1, and the exit stands second
  pub first-version : is_second w ≡ false
      → (length bs ≡ 1) × (map (entry_for (task w h)) bs ≡ 1 ∷ []) × (exit_at setting ≡ 2)
  first-version e =
      let p = proper.first e in
      let k = Memᴰ.eq_of_singleton (subst (Memᴰ (starts_in setting)) p.1 (entries.named (starts_in setting) first-starts (omega arith))) in
      (p.0, p.1, omega (arith, exit-behind, k))

  pub reads-back : HeaderReads preface rs
  reads-back = header-reads preface rs proper (omega (arith, two-rows))

  pub sheet-laid : Laid (heading (bounded_sheet w h)) (bounded_sheet w h) rs
  unfolding bounded_sheet
  sheet-laid = laid preface rs proper (omega (arith, two-rows))

  -- RULE 11
  -- the start has an edge
  some-edge : 1 ≤ edge_count rs
  unfolding row_of rows_of targets
  some-edge =
      let e = edge_of (graph w) setting.laws (low-some (graph w) setting.laws 1 (task w h).largest K.start K.opens).cost
      (λ e. omega arith) in
      let first = start_copy setting widest in
      let here = number-chosen first ds (start-in setting widest) in
      omega (
        arith,
        counted rs _ (row_of (graph w) ds first) (row_at setting _ first here),
        member-some e.1,
        length-map (targets (graph w) first) (target_number ds),
        length-map ((graph w).next 1) (copy_for (graph w) (K.start - (graph w).cost 1)),
      )

  fits : Fits preface rs
  fits =
      record {
        few = (two-rows, omega (arith, K.few, rows_are));
        edges = (some-edge, K.edges);
        proper = proper;
        claims = A.claims;
        starts = starts_in setting;
        rows = rows_fit setting A.sheet.sound.form.blocks.1;
        entries = entries;
      }

  pub keeps-rule : bounded_refusal (bounded_sheet w h) ≡ 0
  unfolding bounded_sheet
  keeps-rule = fits-rule preface rs fits

  -- every word that the build fills fits 16 bits
  pub words-fit-16 : (x : ℕ) → Memᴰ x (bounded_sheet w h) → x < word_limit
  unfolding bounded_sheet
  words-fit-16 = words-fit preface rs fits

  -- THE BOUNDED GRAPH that it gives
  pub version-back : is_second (bounded_sheet w h) ≡ is_second w
  unfolding bounded_sheet
  version-back = reads-back.second

  pub budgets-back : budgets_in (bounded_sheet w h) ≡ (task w h).budgets
  unfolding bounded_sheet
  budgets-back = reads-back.budgets

  pub entries-back : entries_in (bounded_sheet w h) ≡ map (entry_for (task w h)) bs
  unfolding bounded_sheet
  entries-back = reads-back.entries

  pub last-is : (read_bounded (bounded_sheet w h)).last ≡ exit_at setting
  unfolding bounded_sheet read_bounded row_of
  last-is =
      let x = heading (bounded_sheet w h) in
      let b : x.largest ≡ (task w h).largest = ap (λ (x : Heading). x.largest) reads-back.counts in
      let R = rows_fit setting A.sheet.sound.form.blocks.1 in
      ap (λ (l : List ℕ). nth l 1)
      (once x (bounded_sheet w h) rs (starts_in setting) sheet-laid (subst (λ (b : ℕ). RowsFit (starts_in setting) b rs) (sym b) R) 2 R.two)
      ∙ sym (R.two.alone (exit_at setting) _ (row_at setting (exit_at setting) _ (exit-here setting)) refl)

  pub sheet-lays-out : LaysOut setting (read_bounded (bounded_sheet w h))
  unfolding read_bounded
  sheet-lays-out =
      lays-out setting (heading (bounded_sheet w h)) (bounded_sheet w h) sheet-laid (read_bounded (bounded_sheet w h)).last
      (ap (chosen ds) last-is ∙ exit-here setting)
