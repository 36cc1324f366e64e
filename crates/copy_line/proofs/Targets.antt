-- The loop that writes the targets of a chain: one turn, and its ends.
-- Rests on base Lists, formats Words and Chains, digits Wrote, Spaced and Due, specs Line.
use mathlib.Core.Path.{◌≡◌, sym, ap, ◌∙◌}
use mathlib.Core.List.{List, [], ◌++◌, map}
use Prim.Native.Nat.{ℕ, suc, ◌+◌, ◌-◌, ◌≤◌, ◌<◌}
use lib.ListN.{length}
use Rattle.base.specs.Lists.{each}
use Rattle.formats.specs.Words.{Inside, target_from, next_from, edges_from}
use Rattle.formats.proofs.Chains.{follow-end, follow-out, follow-more, inside-next}
use Rattle.digits.specs.Wrote.{Wrote}
use Rattle.digits.specs.Spaced.{spaced}
use Rattle.copy_line.specs.Line.{targets_text}
use Rattle.digits.proofs.Due.{Due, due-start, due-as, due-room, due-step, due-end}

module _ (s : List ℕ) (base m first : ℕ) where
  -- the text of the targets of some edges
  abbrev text_of : List ℕ → List ℕ
  text_of es = each spaced (map (target_from s base) es)

  -- the targets of the edges from e on are due
  pub record Going (old : List ℕ) (at : ℕ) (new : List ℕ) (p k e : ℕ) : Type 0 where
    pub due : Due old at (targets_text s base m first) new p (text_of (edges_from s base k e))
    pub inside : Inside (next_from s base) m k e

  pub going-begins : {old : List ℕ} {at k : ℕ} → at + length (targets_text s base m first) ≤ length old → k ≡ suc m
      → Inside (next_from s base) m (suc m) first → Going old at old at k first
  going-begins r q I =
      record {
        due = due-start (targets_text s base m first) _ r (ap (λ (n : ℕ). text_of (edges_from s base n first)) (sym q));
        inside = rw q I;
      }

  module _ {old : List ℕ} {at : ℕ} {new : List ℕ} {p k e : ℕ} (G : Going old at new p k e) where
    ends : edges_from s base k e ≡ [] → Wrote old at (targets_text s base m first) new p
    unfolding each
    ends q = due-end G.due (ap text_of q)

    pub chain-ends : e ≡ 0 → Wrote old at (targets_text s base m first) new p
    chain-ends z = ends (follow-end (next_from s base) k e z)

    pub fuel-ends : k ≡ 0 → Wrote old at (targets_text s base m first) new p
    fuel-ends z = ends (follow-out (next_from s base) k e z)

    module _ (l : 0 < k) (n : e ≡ 0 → ⊥) {t : ℕ} (q : t ≡ target_from s base e) where
      abbrev later : List ℕ
      later = text_of (edges_from s base (k - 1) (next_from s base e))

      next-due : Due old at (targets_text s base m first) new p (spaced t ++ later)
      unfolding each
      next-due = due-as _ G.due (ap text_of (follow-more (next_from s base) k e l n) ∙ ap (λ (y : ℕ). spaced y ++ later) (sym q))

      pub going-room : p + length (spaced t) ≤ length new
      going-room = due-room (spaced t) later next-due

      pub going_on : {x p' : ℕ} {new' : List ℕ} → Wrote new p (spaced t) new' p' → length new' ≡ length new → x ≡ next_from s base e
          → Going old at new' p' (k - 1) x
      going_on W r y =
          record {
            due = due-as _ (due-step (spaced t) later next-due W r) (ap (λ (z : ℕ). text_of (edges_from s base (k - 1) z)) (sym y));
            inside = inside-next (next_from s base) G.inside l n y;
          }
