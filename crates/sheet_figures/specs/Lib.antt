-- what a report says of a sheet, in the rows that are lent: Costs, Says, Small
pub mod Says
