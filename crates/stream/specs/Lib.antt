-- what the end of the input and a closing part promise: all_figures, Listed, Lists, closing_of, Closable, Closed, Parting, Finishes, Parts
pub mod Ending
