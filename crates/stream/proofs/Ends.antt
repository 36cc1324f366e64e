-- The end of the input: all sheets are the whole ones and, where a length and fewer bytes are the rest, one that is cut.
-- Rests on base Truth, formats Limits, File, Catalogue and Report, calls Report, digits Wrote, catalogue Standing, Parts and Whole, framing Came and Steps, Ending, Catalogues, Parts.
use mathlib.Core.Path.{◌≡◌, refl, sym, ap, subst, ◌∙◌}
use mathlib.Core.Bool.{true, false}
use mathlib.Core.Logic.{◌⊎◌, inl, inr}
use mathlib.Core.List.{List, [], ◌∷◌, ◌++◌, map, append_assoc, append-nil}
use mathlib.Core.Option.{some, none}
use mathlib.Core.Option.{Option as Sheet}
use Rattle.std.specs.Prelude.{Option, None}
use Prim.Native.Nat.{ℕ, suc, ◌+◌, ◌-◌}
use native.Mathlib.Omega.{arith}
use lib.ListN.{length}
use Rattle.base.specs.Lists.{each, from}
use Rattle.base.proofs.Truth.{not-both}
use Rattle.formats.specs.Limits.{most_sheets}
use Rattle.formats.specs.File.{words_of}
use Rattle.formats.specs.Catalogue.{sheets, sheets_up_to}
use Rattle.formats.specs.Report.{Figures, sheet_line, each_sheet, report_of}
use Rattle.calls.specs.Report.{figures, report}
use Rattle.digits.specs.Wrote.{Wrote}
use Rattle.tally.specs.declared.Tally.{Tally}
use Rattle.catalogue.specs.declared.Handed.{Handed}
use Rattle.catalogue.specs.declared.Step.{Step}
use Rattle.catalogue.specs.declared.Part.{Part}
use Rattle.catalogue.specs.declared.Part.TheVariants.{Totals}
use Rattle.catalogue.specs.Standing.{Standing, beyond, Next}
use Rattle.catalogue.specs.Parts.{place_of, parts_before, closing_part}
use Rattle.catalogue.proofs.Whole.{by_parts}
use Rattle.framing.specs.declared.Progress.{Progress}
use Rattle.framing.specs.declared.Frame.{Frame}
use Rattle.framing.specs.declared.Frame.TheVariants.{Between, Half, Within, Full}
use Rattle.framing.specs.Came.{figures_of, may_come, Rest, between, half, within, Came}
use Rattle.stream.specs.declared.Closing.{Closing}
use Rattle.stream.specs.Ending.{all_figures, Listed, closing_of, Closed, Parting}
use Rattle.stream.proofs.Catalogues.{sheets_of, cut-sheet, no-sheet, half-sheet, whole-sheets}
use Rattle.framing.proofs.Steps.{line-behind}
use Rattle.stream.proofs.Parts.{parts_next}
use Rattle.unused.specs.Marks.{Marks}

figures-of : (bodies : List (List ℕ)) (os : List (Sheet (List ℕ))) → map figures (sheets_of bodies ++ os) ≡ figures_of bodies ++ map figures os
figures-of [] os = refl
figures-of (x ∷ bodies) os = ap (λ (fs : List Figures). figures (some (words_of x)) ∷ fs) (figures-of bodies os)

module _ {xs said : List ℕ} {s : Progress} {row : List ℕ} {marks : Marks} (H : Came xs said s row marks) where
  -- all sheets: the whole ones, and those of the rest
  all-sheets : (k : ℕ) (rest : List ℕ) (os : List (Sheet (List ℕ))) → length H.bodies + k ≡ most_sheets → xs ≡ H.front ++ rest
      → sheets_up_to k (words_of rest) ≡ os → all_figures xs ≡ figures_of H.bodies ++ map figures os
  unfolding sheets
  all-sheets k rest os n e q =
      ap (λ (m : ℕ). map figures (sheets_up_to m (words_of xs))) (sym n)
      ∙ ap (λ (w : List ℕ). map figures (sheets_up_to (length H.bodies + k) (words_of w))) e
      ∙ ap (map figures) (whole-sheets H.sheets.whole k rest ∙ ap (λ (w : List (Sheet (List ℕ))). sheets_of H.bodies ++ w) q)
      ∙ figures-of H.bodies os

  -- none is cut
  no_more : (k : ℕ) (rest : List ℕ) → length H.bodies + k ≡ most_sheets → xs ≡ H.front ++ rest → sheets_up_to k (words_of rest) ≡ []
      → all_figures xs ≡ figures_of H.bodies
  no_more k rest n e q = all-sheets k rest [] n e q ∙ append-nil (figures_of H.bodies)

  full : may_come s.frame ≡ false → all_figures xs ≡ figures_of H.bodies
  unfolding sheets_up_to
  full f = no_more 0 H.rest (omega (arith, H.full f)) H.cut refl

  module _ (m : may_come s.frame ≡ true) where
    abbrev still : ℕ
    still = most_sheets - length H.bodies

    few : length H.bodies + still ≡ most_sheets
    few = omega (arith, (H.going m).0)

    -- by what came behind the whole sheets
    none-behind : (rest : List ℕ) → H.rest ≡ rest → sheets_up_to still (words_of rest) ≡ [] → all_figures xs ≡ figures_of H.bodies
    none-behind rest e q = no_more still rest few (H.cut ∙ ap (λ (w : List ℕ). H.front ++ w) e) q

  pub full-figures : s.frame ≡ Full → all_figures xs ≡ figures_of H.bodies
  full-figures f = full (ap may_come f)

  between-figures : s.frame ≡ Between → all_figures xs ≡ figures_of H.bodies
  between-figures f = go H.rest (subst (λ (g : Frame). Rest row g H.rest) f (H.going m).1) refl
    where
      m : may_come s.frame ≡ true
      m = ap may_come f

      go : (rest : List ℕ) → Rest row Between rest → H.rest ≡ rest → all_figures xs ≡ figures_of H.bodies
      go rest between e = none-behind m [] e (no-sheet (still m))

  half-figures : {low : ℕ} → s.frame ≡ Half low → all_figures xs ≡ figures_of H.bodies
  half-figures {low} f = go H.rest (subst (λ (g : Frame). Rest row g H.rest) f (H.going m).1) refl
    where
      m : may_come s.frame ≡ true
      m = ap may_come f

      go : (rest : List ℕ) → Rest row (Half low) rest → H.rest ≡ rest → all_figures xs ≡ figures_of H.bodies
      go rest (half low) e = none-behind m (low ∷ []) e (half-sheet (still m) low)

  -- anything but a length and fewer bytes
  pub none-cut : (s.frame ≡ Between) ⊎ (((low : ℕ) × (s.frame ≡ Half low)) ⊎ (s.frame ≡ Full)) → all_figures xs ≡ figures_of H.bodies
  none-cut (inl f) = between-figures f
  none-cut (inr (inl f)) = half-figures f.1
  none-cut (inr (inr f)) = full-figures f

  pub one-cut : {left count : ℕ} → s.frame ≡ Within left count → all_figures xs ≡ figures_of H.bodies ++ (figures none ∷ [])
  one-cut {left} {count} f = go H.rest (subst (λ (g : Frame). Rest row g H.rest) f (H.going m).1) H.cut
    where
      m : may_come s.frame ≡ true
      m = ap may_come f

      go : (rest : List ℕ) → Rest row (Within left count) rest → xs ≡ H.front ++ rest → all_figures xs ≡ figures_of H.bodies ++ (figures none ∷ [])
      go rest (within left count a b body v l q) e =
          all-sheets (suc (still m - 1)) (a ∷ b ∷ body) (none ∷ []) (omega (arith, (H.going m).0)) e (cut-sheet (still m - 1) a b body (omega (arith, v, l)))

  -- THE LINES OF ALL SHEETS

  pub listed-none : {text : List ℕ} → all_figures xs ≡ figures_of H.bodies
      → Listed xs said text (record { now = s.tally; size = 0 }) marks text
  listed-none e =
      record {
        stands = subst (λ (fs : List Figures). Standing fs s.tally marks) (sym e) H.sheets.stands;
        lines = append-nil said ∙ H.sheets.lines ∙ ap (each_sheet sheet_line 1) (sym e);
        behind = refl;
      }

  pub listed-cut : {text : List ℕ} {r : Step} {marks' : Marks} {text' : List ℕ} → Next None s.tally marks r marks' text text'
      → all_figures xs ≡ figures_of H.bodies ++ (figures none ∷ []) → Listed xs said text (record { now = r.tally; size = r.size }) marks' text'
  listed-cut {r = r} {marks'} N e =
      let D = H.sheets.stands in
      let fs = figures_of H.bodies in
      let W = N.line fs none D beyond in
      record {
        stands = subst (λ (gs : List Figures). Standing gs r.tally marks') (sym e) (N.after fs none D beyond);
        lines = line-behind fs (figures none) H.sheets.lines W.front ∙ ap (each_sheet sheet_line 1) (sym e);
        behind = W.behind;
      }

-- THE CLOSING PARTS

pub closed-first : {xs said text mid : List ℕ} {r : Handed Tally} {marks : Marks} → Listed xs said text r marks mid
    → Parting xs said text (record { now = closing_of r.now Totals; size = r.size }) marks mid
unfolding each from
closed-first {xs} {r = r} L =
    record {
      closed = record { stands = L.stands; is_said = L.lines ∙ sym (append-nil (each_sheet sheet_line 1 (all_figures xs))) };
      behind = L.behind;
    }

pub closed-next : {xs said text after : List ℕ} {t : Tally} {part : Part} {next : Option Part} {marks : Marks} {size : ℕ}
    → Closed xs said (closing_of t part) marks → parts_before t.place next ≡ suc (place_of part)
    → Wrote text 0 (closing_part (all_figures xs) (place_of part)) after size
    → Parting xs said text (record { now = record { tally = t; next = next }; size = size }) marks after
closed-next {xs} {said} {part = part} C e W =
    let fs = all_figures xs in
    let f = closing_part fs in
    let k = place_of part in
    let s : k + 1 ≡ suc k = omega arith in
    let lines = each_sheet sheet_line 1 fs in
    record {
      closed = record {
        stands = C.stands;
        is_said =
            ap (λ (w : List ℕ). said ++ w) W.front ∙ ap (λ (w : List ℕ). w ++ f k) C.is_said
            ∙ append_assoc lines (each f (from 0 k)) (f k) ∙ ap (λ (w : List ℕ). lines ++ w) (parts_next f k)
            ∙ ap (λ (j : ℕ). lines ++ each f (from 0 j)) (s ∙ sym e);
      };
      behind = W.behind;
    }

-- all of them: the report
pub closed-report : {xs said : List ℕ} {c : Closing} {marks : Marks} → Closed xs said c marks → c.next ≡ None → said ≡ report xs
unfolding report
closed-report {xs} {c = c} C m =
    let fs = all_figures xs in
    let k : c.tally.place + 2 ≡ suc (suc (length fs)) = omega (arith, C.stands.place) in
    C.is_said ∙ ap (λ (j : ℕ). each_sheet sheet_line 1 fs ++ each (closing_part fs) (from 0 j)) (ap (parts_before c.tally.place) m ∙ k) ∙ sym (by_parts fs)

-- AFTER 200 SHEETS nothing that comes matters

pub behind : {xs said : List ℕ} {s : Progress} {row : List ℕ} {marks : Marks} → Came xs said s row marks → s.frame ≡ Full → (ys : List ℕ) → Came (xs ++ ys) said s row marks
behind H f ys =
    record {
      front = H.front;
      rest = H.rest ++ ys;
      bodies = H.bodies;
      cut = ap (λ (w : List ℕ). w ++ ys) H.cut ∙ append_assoc H.front H.rest ys;
      sheets = H.sheets;
      going = λ g. absurd (not-both g (ap may_come f));
      full = H.full;
    }

pub ignored-rest : {xs said : List ℕ} {s : Progress} {row : List ℕ} {marks : Marks} → Came xs said s row marks → s.frame ≡ Full → (ys : List ℕ)
    → report (xs ++ ys) ≡ report xs
unfolding report behind
ignored-rest H f ys = ap report_of (full-figures (behind H f ys) f ∙ sym (full-figures H f))
