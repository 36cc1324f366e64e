-- what feeding and finishing promise: Feeds, Leaves
pub mod Fed
-- what a reading that keeps its bytes holds: Holds, Able
pub mod Held
-- what feeding and finishing it promise: Feeds, Comes, Leaves
pub mod Comes
