-- the marks of one sheet in the row of all: own-marks, other-marks
pub mod Marks
-- one sheet more, behind those so far: lines_more, sums-more, most-more, chosen_more
pub mod More
-- what a tally and the marks stand for with one sheet more, and with none: cut-of, next_of, stands-first
pub mod Stands
-- the closing parts: total-part, most-part, unused-part
pub mod Closing
-- the lines of the sheets and the closing parts are the report: by_parts
pub mod Whole
