pub mod AggregateValues
pub mod DatabaseWorlds
pub mod MetConstraints
pub mod OperatorValues
pub mod TreeValues
pub mod Worlds
