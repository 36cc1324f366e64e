-- The margins of all copies of a bounded sheet: their text by what its header was read as, and how long it is.
-- Rests on base Lists, formats BoundedSheet, Rule11, RuleWords and RuleRead, digits Room, specs Margins, Words.
use mathlib.Core.Path.{◌≡◌, sym, ap, ◌∙◌}
use mathlib.Core.List.{List, map}
use Prim.Native.Nat.{ℕ, ◌*◌, ◌≤◌}
use native.Mathlib.Omega.{arith}
use lib.ListN.{length}
use Rattle.base.specs.Lists.{each, from}
use Rattle.base.proofs.Lists.{each_map, from-i, from-length}
use Rattle.formats.specs.Words.{field}
use Rattle.formats.specs.BoundedSheet.{Heading, heading, copy_at}
use Rattle.formats.specs.Rule11.{bounded_refusal}
use Rattle.formats.proofs.RuleWords.{row_at}
use Rattle.formats.proofs.RuleRead.{clauses, read-ruled, row_fits}
use Rattle.digits.proofs.Room.{each-room}
use Rattle.margins.specs.Margins.{margin_at, margins_at, margin_word, margin_words, Records}
use Rattle.margins.proofs.Words.{word-length}

-- by what the heading was read as
pub words_are : (t area : List ℕ) {h : Heading} → h ≡ heading t
    → margin_words t area h.largest h.records h.copies ≡ each margin_word (margins_at t area)
unfolding margin_words margins_at
words_are t area {h} e =
    sym (each_map margin_word (margin_at t area h.largest h.records) (from 1 h.copies))
    ∙ ap (λ (g : Heading). each margin_word (map (margin_at t area g.largest g.records) (from 1 g.copies))) e

-- rule 11 gives records with blocks and lows that have cells
pub records-kept : (t : List ℕ) → bounded_refusal t ≡ 0 → {h : Heading} → h ≡ heading t → Records t h.largest h.records h.copies
unfolding row_at copy_at
records-kept t ok {h} e =
    let R = read-ruled t ok e in
    record {
      budget = rw e (clauses t ok).budget;
      size = omega (arith, R.form.size);
      block = λ i p q. (row_fits h t R i (from-i h.copies 1 i p (omega arith))).block;
      low = λ i p q. (row_fits h t R i (from-i h.copies 1 i p (omega arith))).low;
    }

pub words-length : {t : List ℕ} {b at c : ℕ} → Records t b at c → (area : List ℕ) → length (margin_words t area b at c) ≤ 5 * c
unfolding margin_words
words-length {t} {b} {at} {c} R area =
    omega (arith, each-room (λ i. margin_word (margin_at t area b at i)) 5 (from 1 c) (λ i m. word-length b (field t at 3 i 0) (field t at 3 i 1) area R.budget), from-length c 1)
