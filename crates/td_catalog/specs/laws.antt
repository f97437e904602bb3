pub mod NamedRelvars
pub mod TypedDatabaseLaws
