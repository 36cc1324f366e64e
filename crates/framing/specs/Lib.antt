-- the bytes of a catalogue that came so far: Whole, Sheets, Rest, Came
pub mod Came
-- what the functions promise: Able, Closes, Handing, Feeds
pub mod Feeding
