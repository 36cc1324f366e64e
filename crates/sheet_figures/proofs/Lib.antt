-- what is said of a refused and of an accepted sheet: refused_says, accepted-says, accepted-small
pub mod Said
