-- The two loops, one behind the other.
use Rattle.std.proofs.Common.{◌∙◌}
use Rattle.formats.proofs.RuleRead.{clauses, read-ruled}
use Rattle.unused.proofs.Named.{names-unused, blocks-kept, blocks-read}
use Rattle.unused.proofs.mark_unused.Goals as goal

pub read_heading-heading-requires : goal.read_heading-heading-requires
read_heading-heading-requires c = (clauses _ c.requires.t_value).long

pub unmark_copies-requires : goal.unmark_copies-requires
unmark_copies-requires c = record { blocks = blocks-kept _ _ (read-ruled _ c.requires.t_value c.read_heading-heading.ensures.largest_value); marks_len = c.mark_first.auto.marks ∙ c.requires.marks_len }

pub returns : goal.returns
returns c = names-unused _ _ c.mark_first.ensures (blocks-read _ c.read_heading-heading.ensures.largest_value c.unmark_copies.ensures) c.requires.n_le_most_blocks
