-- what a tally and a row of marks stand for, sheet by sheet: Ready, Standing, Front, Next
pub mod Standing
-- the parts of a report behind the sheets' lines: closing_part
pub mod Parts
