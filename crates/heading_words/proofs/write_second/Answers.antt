-- Part by part.
use Rattle.heading_words.specs.Entries.{entries_in}
use Rattle.heading_words.proofs.Entries.{put_second}
use Rattle.heading_words.proofs.write_second.Goals as goal

pub returns : goal.returns
returns c =
    let bs = c.args.budgets.now in
    put_second c.args.output.now bs (entries_in c.args.numbered.now bs) c.args.copies c.args.edges c.put_two.ensures c.put_two-2.ensures c.put_part.ensures c.put_entries.ensures
