-- a row with the lowered budgets at its front has them there: front-is; the number at a place of them: lowered-at
pub mod Fronts
