pub mod Database
pub mod Dumps
pub mod Mentioned
pub mod TypedDatabases
pub mod WrittenDefinitions
