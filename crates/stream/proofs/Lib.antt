-- the sheets of a catalogue by its bytes: cut-sheet, no-sheet, half-sheet, whole-sheets
pub mod Catalogues
-- the end of the input: full-figures, none-cut, one-cut, listed-none, listed-cut, closed-first, closed-next, closed-report, behind, ignored-rest
pub mod Ends
-- one part more behind the first k: parts_next
pub mod Parts
-- FOR EVERY CATALOGUE, byte by byte: bytes-reported, nothing-missed
pub mod Bytes
