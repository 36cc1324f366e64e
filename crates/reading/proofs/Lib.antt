-- the bytes of a piece, and the end of a text: feeds-next, feeds-all, done-bytes, told-said
pub mod Texts
-- every way of cutting a text into pieces: pieces-read
pub mod Pieces
-- a byte that a fault tells is a byte: told-in, told-out, read-told; a number that is none of the faults: what-none
pub mod Told
-- a reading that keeps its bytes: feeds-own; the end of a text: quiet, told-bytes, told-line
pub mod Own
-- the same for it, every way of cutting a text: pieces-read
pub mod KeptPieces
