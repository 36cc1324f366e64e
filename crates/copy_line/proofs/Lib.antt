-- a copy's line, part by part: copy-length, line_read, chain-read
pub mod Lines
-- a chain's targets: going-begins, going_on, chain-ends
pub mod Targets
