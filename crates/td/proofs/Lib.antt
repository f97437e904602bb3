pub mod Faultless
pub mod Written
mod TypedBases
