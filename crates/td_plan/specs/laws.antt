pub mod Equalities
pub mod EqualitiesOfNames
pub mod EqualitiesOfValues
pub mod LaterRuns
pub mod TotalConditions
pub mod VirtualRelvars
