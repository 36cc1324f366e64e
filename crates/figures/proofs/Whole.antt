-- What is said of a whole sheet, from its first bytes.
-- Rests on file_words Longer, front Read, calls Unused, sheet_figures Says, specs Reports.
use mathlib.Core.Path.{◌≡◌, refl, sym, ap, subst, ◌∙◌}
use mathlib.Core.List.{List}
use mathlib.Core.Option.{some, none}
use Prim.Native.Nat.{ℕ, ◌<◌}
use lib.ListN.{get_or, take}
use Rattle.std.specs.Prelude.{Some, None}
use Rattle.std.proofs.lemmas.Option.{none-some, same_Some}
use Rattle.base.specs.Checks.{refused}
use Rattle.formats.specs.File.{words_of}
use Rattle.formats.specs.Report.{Figures}
use Rattle.calls.specs.Program.{listing_order}
use Rattle.calls.specs.Report.{sheet_figures, figures}
use Rattle.calls.proofs.Unused.{sheet-refused}
use Rattle.file_words.specs.Longer.{longer_file}
use Rattle.front.proofs.Read.{front_same}
use Rattle.sheet_figures.specs.declared.Reported.{Reported}
use Rattle.sheet_figures.specs.Says.{Says}
use Rattle.figures.specs.Reports.{Reports}
use Rattle.unused.specs.Marks.{Marks}

-- sheets with the same refusal
same-figures : (v w : List ℕ) → refused listing_order v ≡ refused listing_order w → (refused listing_order v ≡ 0 → ⊥)
    → sheet_figures v ≡ sheet_figures w
same-figures v w e n = sheet-refused v _ refl n ∙ sym (sheet-refused w _ (sym e) n)

module _ {p : ℕ} {r : Reported} {marks : Marks} {old text : List ℕ} where
  pub reports-cut : Says (figures none) p r marks old text → Reports None p r marks old text
  reports-cut S = record { beyond = λ e. S; whole = λ fs e. absurd (none-some _ e) }

  -- w are its words, and its bytes are below 256
  pub reports-whole : (bs : List ℕ) {w : List ℕ} → w ≡ words_of bs → ((i : ℕ) → get_or bs i 0 < 256)
      → Says (figures (some w)) p r marks old text → Reports (Some bs) p r marks old text
  unfolding figures
  reports-whole bs i bytes S = record {
    beyond = λ e. absurd (none-some _ (sym e));
    whole = λ fs e.
        let f = same_Some _ _ e in
        let all : (j : ℕ) → get_or (take longer_file fs) j 0 < 256 = λ j. subst (λ (x : List ℕ). get_or x j 0 < 256) f (bytes j) in
        subst (λ (x : Figures). Says x p r marks old text)
        (ap sheet_figures i ∙ ap (λ (x : List ℕ). sheet_figures (words_of x)) f ∙ front_same sheet_figures same-figures fs all) S;
  }
