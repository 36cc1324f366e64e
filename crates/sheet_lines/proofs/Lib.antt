-- a sheet's line, part by part: figures-is, refused-is
pub mod Lines
