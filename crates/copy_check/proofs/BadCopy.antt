-- The order that copies derive is the order of the rule.
-- Rests on base Copy.
use Rattle.std.proofs.Common.{◌≡◌, refl, Bool, true, false, ◌&&◌, ◌||◌, not, eqb, ltb, Less, Equal, Greater}
use Rattle.std.specs.Prelude.{cond, Some}
use Rattle.std.specs.Ordering.{is_ge, is_some_and, partial_ordering_then, partial_ge}
use Rattle.base.specs.Copy.{before}
use Rattle.copy_check.specs.BadCopy.{copy_in}
use Rattle.copy_check.specs.declared.CopyKey.{CopyKey}
use Rattle.copy_check.specs.contracts.CopyKeyPartialOrd.TheImpl as order

lexical : (a b c d : Bool)
    → is_some_and is_ge (partial_ordering_then (Some (cond a Less (cond b Equal Greater))) (Some (cond c Less (cond d Equal Greater))))
    ≡ not (a || (b && c))
lexical true b c d = refl
lexical false true true d = refl
lexical false true false true = refl
lexical false true false false = refl
lexical false false c d = refl

pub not_before : (c d : CopyKey) → partial_ge order.partial_cmp-value.it c d ≡ not (before (copy_in c) (copy_in d))
unfolding before
not_before c d = lexical (ltb c.block d.block) (eqb c.block d.block) (ltb c.low d.low) (eqb c.low d.low)
