-- A chain is counted edge by edge; what is passed and what is left make the whole length.
use Rattle.std.proofs.Common.{◌∙◌, sym, ap, length, arith}
use Rattle.chains.proofs.Rest.{rest_counted}
use Rattle.chains.proofs.Counting.{given-none, given-sum, given-one, given-all}
use Rattle.chains.proofs.count_targets.Goals as goal

pub loop-target-init : goal.loop-target-init
loop-target-init c = rw c.into_iter-target-iterator.ensures.into_iter_gives (given-none _ _ _ _ _ c.args.chain.inside)

pub overflow_add-count : goal.overflow_add-count
overflow_add-count c =
    let z = c.args.chain in
    let whole = rest_counted z.words.now z.base z.left z.edge in
    let sum = given-sum _ _ _ _ _ c.loop-target.invariant in
    let more = ap length c.in-Some.ensures.steps in
    omega (arith, c.requires, whole, sum, more)

pub loop-target-preserved : goal.loop-target-preserved
loop-target-preserved c = given-one _ _ _ _ _ c.loop-target.invariant c.in-Some.ensures.steps

pub returns : goal.returns
returns c =
    let z = c.args.chain in
    given-all _ _ _ _ _ c.loop-target.invariant c.in-None.ensures.steps.0 ∙ sym (rest_counted z.words.now z.base z.left z.edge)
