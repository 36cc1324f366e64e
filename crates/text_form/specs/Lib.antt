-- decimal words in a text, and its first fault: Mode, What, Fault, Read, step, read_words
pub mod Reading
-- what the encode program writes: said_text, encoded_bytes, encoded_said
pub mod Said
