-- At its own cell, or at the cell that the entry leads to.
use Rattle.std.proofs.Common.{◌≡◌, sym, ◌∙◌, ℕ, suc, ◌-◌, ◌≤◌, arith, ap, not}
use borrow.Author.Tests.{not-true, not-false}
use Rattle.base.proofs.Cells.{cell-rises}
use Rattle.number.proofs.Looking.{at_once, by-none, by-unmarked, by-marked}
use Rattle.number.proofs.number_of.Goals as goal

pub returns-then-is_marked : goal.returns-then-is_marked
returns-then-is_marked c = (at_once _ _ _ _ _ c.entry-value.ensures.0 (sym c.is_marked.ensures ∙ c.if-is_marked.true), c.entry-value.ensures.1)

pub returns-then-value-eq0 : goal.returns-then-value-eq0
returns-then-value-eq0 c = (by-none _ _ _ _ _ c.entry-value.ensures.0 (sym c.is_marked.ensures ∙ c.if-is_marked.false) c.if-value-eq0.true, omega arith)

pub is_marked-requires-2-clause-inside : goal.is_marked-requires-2-clause-inside
is_marked-requires-2-clause-inside c =
    let low : ℕ = c.entry-value.result - 1 in
    let small : low ≤ c.args.cycles = omega (arith, c.requires.small (sym c.is_marked.ensures ∙ c.if-is_marked.false), c.entry-value.ensures.0) in
    omega (arith, c.requires.inside.0, cell-rises c.args.layout.budget c.args.block low c.args.cycles small)

pub returns-then-not-is_marked : goal.returns-then-not-is_marked
returns-then-not-is_marked c =
    let low : ℕ = c.entry-value.result - 1 in
    let one_more : c.entry-value.result ≡ suc low = omega (arith, c.if-value-eq0.false) in
    let m = sym c.is_marked-2.ensures ∙ not-true _ (ap not c.if-not-is_marked.true) in
    (by-unmarked _ _ _ _ _ c.entry-value.ensures.0 (sym c.is_marked.ensures ∙ c.if-is_marked.false) low one_more m, omega arith)

pub entry-requires-clause-inside : goal.entry-requires-clause-inside
entry-requires-clause-inside c =
    let low : ℕ = c.entry-value.result - 1 in
    let small : low ≤ c.args.cycles = omega (arith, c.requires.small (sym c.is_marked.ensures ∙ c.if-is_marked.false), c.entry-value.ensures.0) in
    omega (arith, c.requires.inside.1, cell-rises c.args.layout.budget c.args.block low c.args.cycles small)

pub returns : goal.returns
returns c =
    let low : ℕ = c.entry-value.result - 1 in
    let one_more : c.entry-value.result ≡ suc low = omega (arith, c.if-value-eq0.false) in
    let m = sym c.is_marked-2.ensures ∙ not-false _ (ap not c.if-not-is_marked.false) in
    (c.entry.ensures.0 ∙ by-marked _ _ _ _ _ c.entry-value.ensures.0 (sym c.is_marked.ensures ∙ c.if-is_marked.false) low one_more m, c.entry.ensures.1)
