-- what comes and what is written, byte by byte: takes_none, takes_next, takes_all, prints_none, prints_next, printed_all; at_err
pub mod Bytes
-- the closing parts that were written: PartsPrinted, closed_at
pub mod Parts
