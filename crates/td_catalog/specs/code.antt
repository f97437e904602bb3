pub mod CatalogViews
pub mod DatabaseCode
pub mod Histories
pub mod KeptDatabases
pub mod NameMarks
pub mod Sought
