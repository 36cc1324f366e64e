-- a copy by what its tests say: copy_is
pub mod BadCopy
