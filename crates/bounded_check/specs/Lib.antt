-- What the contracts below the public call cite; the public call cites formats alone.
-- Rests on formats, record_check, entry_check.
-- the clauses on the header and the length: bad_form
pub mod Form
-- the clauses behind the header: bad_exits, bad_behind
pub mod Behind
-- the first copies of block 1: Leading
pub mod Starts
-- what rule 11 leaves: Listed, IsRuled; entry_word
pub mod Ruled
