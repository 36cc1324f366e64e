-- By the version.
use Rattle.std.proofs.Common.{sym, ap, subst, ◌∙◌, Bool, [], ◌∷◌, ℕ, ◌≤◌, arith, length}
use Rattle.formats.specs.BoundedSheet.{heading_words}
use Rattle.put_words.specs.Put.{put_words}
use Rattle.heading_words.specs.Entries.{heading_size, entries_in}
use Rattle.heading_words.proofs.write_heading.Goals as goal

pub write_second-requires-clause-room : goal.write_second-requires-clause-room
unfolding heading_size
write_second-requires-clause-room c =
    let room = subst (λ (v : Bool). heading_size v (length c.args.budgets.now) ≤ length c.args.output.now) c.if-second.true c.requires.room in
    omega (arith, room)

pub returns-then-second : goal.returns-then-second
unfolding heading_words
returns-then-second c =
    let bs = c.args.budgets.now in
    let es = entries_in c.args.numbered.now bs in
    c.write_second.ensures
    ∙ sym (ap (λ (v : Bool). put_words c.args.output.now 0 (heading_words v bs es c.args.copies c.args.edges)) c.if-second.true)

pub put_three-requires : goal.put_three-requires
unfolding heading_size
put_three-requires c =
    let room = subst (λ (v : Bool). heading_size v (length c.args.budgets.now) ≤ length c.args.output.now) c.if-second.false c.requires.room in
    (omega (arith, room), c.requires.counts.0, c.requires.counts.1, omega (arith, c.args.numbered.now.layout.small))

pub returns : goal.returns
unfolding heading_words
returns c =
    let bs = c.args.budgets.now in
    let es = entries_in c.args.numbered.now bs in
    c.put_three.ensures
    ∙ ap (λ (b : ℕ). put_words c.args.output.now 0 (c.args.copies ∷ c.args.edges ∷ b ∷ [])) c.requires.claimed.1
    ∙ sym (ap (λ (v : Bool). put_words c.args.output.now 0 (heading_words v bs es c.args.copies c.args.edges)) c.if-second.false)
