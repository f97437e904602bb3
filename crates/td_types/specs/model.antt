pub mod Headings
pub mod NamedTypes
pub mod Texts
pub mod TypeLists
pub mod Types
