mod Apart
mod Chains
pub mod ClosureLaws
pub mod Extremes
mod Graphs
mod GroupMembers
mod Grouped
mod GroupParts
mod Keyed
pub mod Nested
mod NestTests
mod NestedMembers
mod Rests
mod RoundTrips
mod RowLayouts
mod Sums
mod Tables
mod Worked
