pub mod Agreement
pub mod KnownValues
pub mod Literal
pub mod Sets
pub mod Values
