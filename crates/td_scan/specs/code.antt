pub mod Fronts
pub mod Progress
