-- margins by a bounded sheet and a work area: margin_at, margins_at, margin_word, Records
pub mod Margins
