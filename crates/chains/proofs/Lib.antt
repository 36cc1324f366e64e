-- how many records are not marked: unmarked-set, unmarked-clear
pub mod Unmarked
-- unsound chains found with a row of marks: from-clear
pub mod Marks
-- one chain followed, turn by turn: Chained, chain-begins, chain-ends, edge-above, edge-twice, edge-new
pub mod Following
-- the k-th target of a chain: no-choice, choice-found
pub mod Looking
-- the targets of a chain copied, edge by edge: Copying
pub mod Copying
-- one chain counted, edge by edge: Passed; Given, by the targets that it gives
pub mod Counting
-- what a chain has left: rest_end, rest_more; rest_few, rest_counted
pub mod Rest
