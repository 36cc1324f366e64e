-- modes by their numbers, and the room of a text's bytes: mode_of, bytes_size
pub mod Modes
