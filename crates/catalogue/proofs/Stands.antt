-- What a tally and the marks stand for with one sheet more, from what is said of it; and with no sheet.
-- Rests on formats Limits and Report, digits Due, tally Tallies, sheet_figures Says, figures Reports, specs Standing, Marks, More.
use mathlib.Core.Path.{◌≡◌, refl, sym, ap, ◌∙◌}
use mathlib.Core.Logic.{◌⊎◌, inl, inr}
use mathlib.Core.Bool.{Bool, ◌&&◌, not}
use Rattle.std.specs.Prelude.{Option as Bytes, Some, None, is_some, is_none, option_map}
use mathlib.Core.List.{List, [], ◌∷◌, ◌++◌}
use mathlib.Core.Option.{Option, some, none-ne-some}
use Prim.Native.Nat.{ℕ, suc, ◌+◌, ◌*◌, ◌≤◌, ◌<◌}
use native.Mathlib.Omega.{arith}
use lib.Dec.{ltb}
use lib.ListN.{length, take, length-append}
use Rattle.base.specs.Lists.{chosen}
use Rattle.formats.specs.Limits.{most_blocks, most_sheets}
use Rattle.formats.specs.Report.{Figures, Sums, no_sums, plus, sums, Most, no_most, greater, most_of, most, sheet_line}
use Rattle.calls.specs.Report.{figures}
use Rattle.digits.proofs.Due.{wrote_as}
use Rattle.unused.specs.Marks.{Marks, marked_blocks}
use Rattle.tally.specs.declared.Tally.{Tally}
use Rattle.tally.specs.Tallies.{sums_of, most_from, figured, Tallied}
use Rattle.sheet_figures.specs.declared.Reported.{Reported}
use Rattle.sheet_figures.specs.Says.{Says}
use Rattle.figures.specs.Reports.{Reports}
use Rattle.catalogue.specs.Standing.{marks_of, Standing, Front, beyond, whole, Next}
use Rattle.catalogue.proofs.Marks.{own-marks, other-marks}
use Rattle.catalogue.proofs.More.{sums-more, most-more, chosen_more}

-- NO SHEET
pub stands-first : {t : Tally} {marks : Marks} → t.place ≡ 0 → sums_of t ≡ no_sums → most_from t.most ≡ no_most → Standing [] t marks
unfolding sums most chosen
stands-first p s m = record { place = p; summed = s; greatest = m; unused = λ i f e. absurd (none-ne-some f e) }

-- the figures that are summed and compared
plus-by : (s : Sums) (f : Figures) {n c e : ℕ} → n ≡ f.blocks → c ≡ f.copies → e ≡ f.edges → plus s (figured n c e) ≡ plus s f
unfolding plus
plus-by s f p q r = rw (p, q, r)

most-by : (m : Most) (k : ℕ) (f : Figures) {n c : ℕ} (e : ℕ) → n ≡ f.blocks → c ≡ f.copies → most_of m k (figured n c e) ≡ most_of m k f
unfolding greater most_of
most-by m k f e p q = rw (p, q)

-- what is said of a sheet from its first bytes is said of the sheet
said : {bytes : Bytes (List ℕ)} {part : Marks} {row text : List ℕ} {o : Option (List ℕ)} {k : ℕ} {r : Reported} → Front bytes o
    → Reports bytes k r part row text → Says (figures o) k r part row text
said beyond R = R.beyond refl
said (whole fs) R = R.whole fs refl

-- whether a sheet is cut, by the value behind a reference
pub cut-of : {A B : Type 0} (f : A → B) (o : Bytes A) (cut : Bool) → is_some o ≡ not cut → not cut ≡ not (is_none (option_map f o))
cut-of f None cut e = sym e
cut-of f (Some x) cut e = sym e

-- ONE SHEET MORE: its part of the marks stands behind those of the p sheets so far
abbrev put_marks : ℕ → Marks → Marks → Marks → Marks
put_marks p old part rest = take (p * most_blocks) old ++ (part ++ rest)

-- of which r is said
module _ (t t' : Tally) (r : Reported) (old part rest : Marks) (T : Tallied (figured r.blocks r.copies r.edges) t t')
    (room : t.place * most_blocks ≤ length old) (size : length part ≡ most_blocks) where
  stands_after : {k : ℕ} {row text : List ℕ} (fs : List Figures) (f : Figures) → Standing fs t old → Says f k r part row text
      → Standing (fs ++ (f ∷ [])) t' (put_marks t.place old part rest)
  stands_after fs f D S = record {
    place = omega (arith, T.place, D.place, length-append fs (f ∷ []));
    summed =
        T.sums ∙ plus-by (sums_of t) f S.blocks S.copies S.edges ∙ ap (λ (s : Sums). plus s f) D.summed
        ∙ sym (sums-more no_sums fs f);
    greatest =
        T.most ∙ most-by (most_from t.most) (suc t.place) f r.edges S.blocks S.copies
        ∙ ap (λ (m : Most). most_of m (suc t.place) f) D.greatest
        ∙ ap (λ (p : ℕ). most_of (most no_most 1 fs) p f) behind
        ∙ sym (most-more no_most 1 fs f);
    unused = λ i g e. go i g (chosen_more fs f g i e);
  }
    where
      behind : suc t.place ≡ 1 + length fs
      behind = omega (arith, D.place)

      go : (i : ℕ) (g : Figures) → ((i < length fs) × (chosen fs (suc i) ≡ some g)) ⊎ ((i ≡ length fs) × (f ≡ g))
          → marked_blocks (marks_of i (put_marks t.place old part rest)) ≡ g.unused
      go i g (inl x) = ap marked_blocks (other-marks t.place old part rest room i (omega (arith, x.0, D.place))) ∙ D.unused i g x.1
      go i g (inr x) =
          ap (λ (j : ℕ). marked_blocks (marks_of j (put_marks t.place old part rest))) (x.0 ∙ sym D.place)
          ∙ ap marked_blocks (own-marks t.place old part rest room size) ∙ S.unused ∙ ap (λ (h : Figures). h.unused) x.1

  pub next_of : {bytes : Bytes (List ℕ)} {row text : List ℕ} {more : Bool} → Reports bytes (t.place + 1) r part row text
      → more ≡ (not (is_none bytes) && ltb t'.place most_sheets)
      → Next bytes t old (record { tally = t'; size = r.size; more = more }) (put_marks t.place old part rest) row text
  next_of R e = record {
    line = λ fs o D F.
        let p : t.place + 1 ≡ suc (length fs) = omega (arith, D.place) in
        wrote_as (said F R).line (ap (λ (k : ℕ). sheet_line k (figures o)) p);
    after = λ fs o D F. stands_after fs (figures o) D (said F R);
    more = e;
  }
