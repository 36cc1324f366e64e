-- the words before a record: record-end
pub mod Records
