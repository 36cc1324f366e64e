-- What came: nothing yet, or a sheet more, whose line is handed back.
-- Rests on base Truth, formats Limits, File and Report, calls Report, file_words Longer, catalogue Standing and More, specs Came and Feeding.
use mathlib.Core.Path.{◌≡◌, refl, sym, ap, subst, ◌∙◌}
use mathlib.Core.Bool.{Bool, true, false}
use Rattle.std.specs.Prelude.{Some, if◌then◌else◌}
use mathlib.Core.List.{List, [], ◌∷◌, ◌++◌, append-nil}
use mathlib.Core.Option.{some}
use Prim.Native.Nat.{ℕ, suc, ◌+◌, ◌*◌, ◌≤◌, ◌<◌}
use native.Mathlib.Omega.{arith}
use borrow.Author.Tests.{ltb-true, ltb-false}
use lib.ListN.{length, take, length-append}
use Rattle.base.proofs.Truth.{not-both}
use Rattle.formats.specs.Limits.{most_sheets}
use Rattle.formats.specs.File.{words_of}
use Rattle.formats.specs.Report.{Figures, sheet_line, each_sheet}
use Rattle.calls.specs.Report.{figures}
use Rattle.file_words.specs.Longer.{longer_file}
use Rattle.tally.specs.declared.Tally.{Tally}
use lib.Dec.{ltb}
use Rattle.catalogue.specs.declared.Handed.{Handed}
use Rattle.catalogue.specs.declared.Step.{Step}
use Rattle.catalogue.specs.Standing.{Standing, Front, whole, Next}
use Rattle.catalogue.proofs.More.{lines_more}
use Rattle.framing.specs.declared.Progress.{Progress}
use Rattle.framing.specs.declared.Frame.{Frame}
use Rattle.framing.specs.declared.Frame.TheVariants.{Between, Full}
use Rattle.framing.specs.Came.{none, more, figures_of, Sheets, may_come, Rest, between, Came}
use Rattle.framing.specs.Feeding.{Closes, Handing}
use Rattle.unused.specs.Marks.{Marks}

figures-more : (bodies : List (List ℕ)) (body : List ℕ)
    → figures_of (bodies ++ (body ∷ [])) ≡ figures_of bodies ++ (figures (some (words_of body)) ∷ [])
figures-more [] body = refl
figures-more (x ∷ bodies) body = ap (λ (fs : List Figures). figures (some (words_of x)) ∷ fs) (figures-more bodies body)

pub figures-count : (bodies : List (List ℕ)) → length (figures_of bodies) ≡ length bodies
figures-count [] = refl
figures-count (x ∷ bodies) = ap suc (figures-count bodies)

-- NOTHING CAME

pub came-first : {s : Progress} {row : List ℕ} {marks : Marks} → Standing [] s.tally marks → s.frame ≡ Between → Came [] [] s row marks
unfolding each_sheet
came-first {row = row} D z =
    record {
      front = [];
      rest = [];
      bodies = [];
      cut = refl;
      sheets = record { whole = none; stands = D; lines = refl };
      going = λ e. (omega arith, subst (λ (f : Frame). Rest row f []) (sym z) between);
      full = λ e. absurd (not-both (ap may_come z) e);
    }

-- A LINE MORE, behind what was handed back

pub line-behind : {said new : List ℕ} (fs : List Figures) (f : Figures) → said ≡ each_sheet sheet_line 1 fs
    → new ≡ sheet_line (suc (length fs)) f → said ++ new ≡ each_sheet sheet_line 1 (fs ++ (f ∷ []))
line-behind fs f e w =
    let n : suc (length fs) ≡ 1 + length fs = omega arith in
    rw (e, w) (ap (λ (k : ℕ). each_sheet sheet_line 1 fs ++ sheet_line k f) n ∙ sym (lines_more sheet_line 1 fs f))

front-of : {bs : List ℕ} (body : List ℕ) → bs ≡ take longer_file body → Front (Some bs) (some (words_of body))
front-of body q = subst (λ (w : List ℕ). Front (Some w) (some (words_of body))) (sym q) (whole body)

module _ {bs : List ℕ} {t : Tally} {marks : Marks} {text : List ℕ} {e : Step} {marks' : Marks} {text' : List ℕ} (N : Next (Some bs) t marks e marks' text text') where
  pub sheet-more : (xs said : List ℕ) (bodies : List (List ℕ)) (a b : ℕ) (body : List ℕ) → Sheets xs said bodies t marks
      → length body ≡ 2 * (a + 256 * b) → bs ≡ take longer_file body
      → Sheets (xs ++ (a ∷ b ∷ body)) (said ++ take e.size text') (bodies ++ (body ∷ [])) e.tally marks'
  sheet-more xs said bodies a b body S l q =
      let fs = figures_of bodies in
      let f = figures (some (words_of body)) in
      record {
        whole = more xs bodies a b body S.whole l;
        stands = subst (λ (gs : List Figures). Standing gs e.tally marks') (sym (figures-more bodies body)) (N.after fs _ S.stands (front-of body q));
        lines = line-behind fs f S.lines (N.line fs _ S.stands (front-of body q)).front ∙ ap (each_sheet sheet_line 1) (sym (figures-more bodies body));
      }

-- A SHEET IS WHOLE

-- behind p sheets and nothing
abbrev Framed : List ℕ → ℕ → Frame → Type 0
Framed row p f = (may_come f ≡ true → (p < most_sheets) × Rest row f []) × (may_come f ≡ false → most_sheets ≤ p)

framed-by : (row : List ℕ) (p : ℕ) (b : Bool) → ltb p most_sheets ≡ b → Framed row p (if b then Between else Full)
framed-by row p true q = (λ m. (ltb-true p most_sheets q, between), λ m. absurd (not-both refl m))
framed-by row p false q = (λ m. absurd (not-both m refl), λ m. ltb-false p most_sheets q)

framed : (row : List ℕ) (p : ℕ) {f : Frame} → f ≡ (if ltb p most_sheets then Between else Full) → Framed row p f
framed row p e = subst (Framed row p) (sym e) (framed-by row p (ltb p most_sheets) refl)

module _ {bs : List ℕ} {t : Tally} {marks : Marks} {text : List ℕ} {r : Handed Progress} {marks' : Marks} {text' : List ℕ} (C : Closes bs t marks text r marks' text') where
  pub closed : (xs said front : List ℕ) (bodies : List (List ℕ)) (a b : ℕ) (body row : List ℕ) → Sheets front said bodies t marks
      → length body ≡ 2 * (a + 256 * b) → bs ≡ take longer_file body → length bodies < most_sheets → xs ≡ front ++ (a ∷ b ∷ body)
      → Handing xs said text r row marks' text'
  closed xs said front bodies a b body row S l q k e =
      let T = sheet-more C.line front said bodies a b body S l q in
      let W = C.line.line (figures_of bodies) _ S.stands (front-of body q) in
      let n = bodies ++ (body ∷ []) in
      let p : r.now.tally.place ≡ length n = T.stands.place ∙ figures-count n in
      let F = framed row r.now.tally.place C.frame in
      record {
        came = record {
          front = front ++ (a ∷ b ∷ body);
          rest = [];
          bodies = n;
          cut = e ∙ sym (append-nil (front ++ (a ∷ b ∷ body)));
          sheets = T;
          going = λ m. (omega (arith, p, (F.0 m).0), (F.0 m).1);
          full = λ m. omega (arith, p, k, length-append bodies (body ∷ []), F.1 m);
        };
        behind = W.behind;
      }
