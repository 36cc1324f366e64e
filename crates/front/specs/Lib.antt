-- the bounded sheet with which a row begins: most_words, front_sheet
pub mod Front
