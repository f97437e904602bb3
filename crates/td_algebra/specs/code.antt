pub mod Columns
pub mod Layouts
pub mod Lookups
pub mod Masks
pub mod Merges
pub mod Pairs
pub mod Parts
