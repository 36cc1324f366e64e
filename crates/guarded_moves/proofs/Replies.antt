-- The monitor's reply to a choice, case by case, as a look-up decides it.
-- Rests on base Options, theory Completions and Monitor, calls Moves and Area, graph_row, tables, Choices.
use mathlib.Core.Path.{◌≡◌, refl, sym, ap, ◌∙◌}
use mathlib.Core.Bool.{Bool, true, false}
use mathlib.Core.List.{List}
use mathlib.Core.Logic.{◌⊎◌}
use mathlib.Core.Option.{Option, some, none}
use Prim.Native.Nat.{ℕ, ◌+◌, ◌-◌, ◌≤◌, ◌<◌}
use native.Mathlib.Omega.{arith}
use lib.ListN.{length}
use Rattle.base.specs.Cells.{cell_of}
use Rattle.base.specs.Checks.{outside}
use Rattle.std.specs.Prelude.{Some, None, Option as Choice}
use Rattle.base.specs.Lists.{chosen, nth}
use Rattle.base.specs.Options.{option_in}
use Rattle.theory.specs.Completions.{Graph, IsLow, low_of}
use Rattle.theory.specs.Machines.{going, diverted, reply}
use Rattle.theory.specs.Walks.{Walk, InShape, end_at, has_ended, monitor}
use Rattle.theory.specs.Setting.{WellFormed}
use Rattle.calls.specs.Area.{HasCell, Table}
use Rattle.calls.specs.Moves.{Budgeted, budgeted, reply_with}
use Rattle.theory.proofs.Completions.{low-some, low-none, covers}
use Rattle.theory.proofs.Monitor.{monitor-acts}
use Rattle.calls.proofs.Area.{area-cell}
use Rattle.tables.specs.Tables.{low_in}
use Rattle.tables.proofs.Tables.{low-in}
use Rattle.graph_row.specs.GraphRow.{blocks_in, graph_in, Flat}
use Rattle.walk.proofs.Shape.{ended_is, going-is}
use Rattle.guarded_moves.proofs.Choices.{no-choice, choice-is, target-fits}

-- n is the number of the walk's budget b
module _ {g : Graph} (L : WellFormed g) (b n : ℕ) (s : Walk) (k : ℕ) where
  ended_so : (s.end ≡ going → ⊥) → record { answer = 32; after = budgeted n s } ≡ reply_with n (reply (monitor g b) s k)
  ended_so h = ap (reply_with n) (sym ((monitor-acts g L b).ended s k h))

  module _ (e : s.end ≡ going) where
    unchosen_so : (k ≡ 0) ⊎ (length (g.next s.place) < k)
        → record { answer = 31; after = budgeted n s } ≡ reply_with n (reply (monitor g b) s k)
    unchosen_so h = ap (reply_with n) (sym ((monitor-acts g L b).no-choice s k e h))

  -- the k-th successor is t, and o what the look-up of it with what is left finds
  module _ {t : ℕ} (q : chosen (g.next s.place) k ≡ some t) {o : Option ℕ} (l : o ≡ low_of g t (b - s.count)) where
    diverts_so : s.end ≡ going → o ≡ none → {a : Budgeted} → a ≡ budgeted n (record { place = s.place; count = s.count; end = diverted })
        → record { answer = 0; after = a } ≡ reply_with n (reply (monitor g b) s k)
    diverts_so e z r =
        rw r (ap (reply_with n) (sym ((monitor-acts g L b).diverts s k t e q
        (λ c d h. low-none g L t (b - s.count) (sym l ∙ z) c d (omega arith)))))

    module _ {y : ℕ} (z : o ≡ some y) where
      found : IsLow g t (b - s.count) y
      found = low-some g L t (b - s.count) y (sym l ∙ z)

      -- the target's cost is covered by what is left
      fits_so : s.count ≤ b → {c : ℕ} → c ≡ g.cost t → s.count + c ≤ b
      fits_so h w = omega (arith, found.below, covers g L found.cost, w)

      enters_so : s.end ≡ going → s.count ≤ b → {c : ℕ} → c ≡ g.cost t → {a : Budgeted}
          → a ≡ budgeted n (record { place = t; count = s.count + c; end = end_at 2 t })
          → record { answer = 0; after = a } ≡ reply_with n (reply (monitor g b) s k)
      enters_so e h w r =
          rw (r, w) (ap (reply_with n) (sym ((monitor-acts g L b).enters s k t y e q found.cost (omega (arith, found.below)))))

-- THE CALL below the checks: the graph in a row, an area that is laid out for l, and a walk in shape whose budget is b; o tells whether it has ended
module _ {row : List ℕ} (F : Flat row) {area : List ℕ} {l : ℕ} (T : Table (graph_in row) (blocks_in row) l area) (b n : ℕ) (s : Walk) (k : ℕ)
    {blocks : ℕ} (fits : (blocks ≡ blocks_in row) × (b ≤ l) × InShape (blocks_in row) 2 b s) {o : Bool} (over : o ≡ has_ended s.end) where
  abbrev Replies : ℕ → Budgeted → Type 0
  Replies a after = record { answer = a; after = after } ≡ reply_with n (reply (monitor (graph_in row) b) s k)

  pub ended : o ≡ true → Replies 32 (budgeted n s)
  ended h = ended_so F.laws b n s k (ended_is over h)

  -- its place has the successors xs, and x tells whether the choice is outside them
  module _ (h : o ≡ false) {xs : List ℕ} (e : xs ≡ (graph_in row).next s.place) {x : Bool} (q : x ≡ outside 1 (length xs) k) where
    pub unchosen : x ≡ true → Replies 31 (budgeted n s)
    unchosen y = unchosen_so F.laws b n s k (going-is _ over h) (no-choice F s.place k e q y)

    module _ (y : x ≡ false) where
      pub choice_is : chosen ((graph_in row).next s.place) k ≡ some (nth xs k)
      choice_is = choice-is F s.place k e q y refl

      pub target : (1 ≤ nth xs k) × (nth xs k ≤ blocks_in row)
      target = target-fits F s.place k e q y refl

      pub target_cell : (nth xs k ≤ blocks) × (b - s.count ≤ l) × HasCell area (cell_of l (nth xs k) l)
      target_cell =
          let t = target in
          (omega (arith, t.1, fits.0), omega (arith, fits.1), area-cell _ l _ _ area t.0 t.1 (omega arith) T.room)

      -- r is what the look-up finds for the target
      module _ (r : Choice ℕ) (low : option_in r ≡ low_in l area (nth xs k) (b - s.count)) where
        looked : option_in r ≡ low_of (graph_in row) (nth xs k) (b - s.count)
        looked = let t = target in low ∙ low-in T _ _ t.0 t.1 (omega (arith, fits.1))

        pub diverts : r ≡ None → {a : Budgeted} → a ≡ budgeted n (record { place = s.place; count = s.count; end = diverted }) → Replies 0 a
        diverts z = diverts_so F.laws b n s k choice_is looked (going-is _ over h) (ap option_in z)

        module _ {m : ℕ} (z : r ≡ Some m) {c : ℕ} (cost : c ≡ (graph_in row).cost (nth xs k)) where
          pub count_fits : s.count + c ≤ l
          count_fits = let p = fits_so F.laws b n s k choice_is looked (ap option_in z) fits.2.count cost in omega (arith, p, fits.1)

          pub enters : {a : Budgeted} → a ≡ budgeted n (record { place = nth xs k; count = s.count + c; end = end_at 2 (nth xs k) }) → Replies 0 a
          enters = enters_so F.laws b n s k choice_is looked (ap option_in z) (going-is _ over h) fits.2.count cost
