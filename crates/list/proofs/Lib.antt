-- the listing of a graph sheet by the answer, and of a whole file by its first words: sheet-refused, sheet-listed, listed-whole, listed_kept
pub mod Files
