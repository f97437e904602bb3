pub mod Aggregates
pub mod Closure
pub mod Groups
pub mod Nesting
