mod Backwards
mod ChangedBodies
mod ChangedRelations
mod Changes
mod Copies
pub mod EntriesLess
mod KeyNames
mod KnownRelvars
mod TypedDrops
pub mod TypedTypeDrops
mod Lines
pub mod Lists
pub mod TypedChanges
mod Places
mod ByPlace
mod Rows
mod SameAny
mod Searches
mod ValuesLeft
mod Visits
mod LastTypes
mod LedSteps
mod PutBack
mod Steps
mod Named
mod SharedMarks
