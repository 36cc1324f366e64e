-- The whole table is the list of the cycles of 0 to 15, computed once; so an entry is its operation's cycles.
use Rattle.std.proofs.Common.{◌≡◌, refl, ap, ◌∙◌, List, [], ◌∷◌, map, ℕ, ◌+◌, ◌≤◌, ◌<◌, arith, get_or}
use Rattle.base.specs.Lists.{from}
use Rattle.base.proofs.Lists.{from-map}
use Rattle.operation_sheet.specs.Operations.{cycles_of}
use Rattle.operation_sheet.proofs.CycleSums.{cycles-fit}
use Rattle.operation_sheet.proofs.cycles.Goals as goal

unfoldable table : List ℕ
table = 1 ∷ 1 ∷ 1 ∷ 1 ∷ 1 ∷ 1 ∷ 1 ∷ 1 ∷ 2 ∷ 2 ∷ 2 ∷ 2 ∷ 3 ∷ 3 ∷ 3 ∷ 8 ∷ []

table_is : table ≡ map cycles_of (from 0 16)
unfolding table cycles_of from
table_is = refl

entry-is : (k : ℕ) → k < 16 → get_or table k 0 ≡ cycles_of k
entry-is k l =
    let p : 0 + k ≡ k = omega arith in
    ap (λ (xs : List ℕ). get_or xs k 0) table_is ∙ from-map cycles_of 16 0 k l ∙ ap cycles_of p

entry-small : (k : ℕ) → k < 16 → get_or table k 0 ≤ 8
entry-small k l = omega (arith, entry-is k l, cycles-fit k)

pub returns : goal.returns
unfolding table
returns c = let l : c.args.operation < 16 = omega (arith, c.requires) in (entry-is c.args.operation l, entry-small c.args.operation l)
