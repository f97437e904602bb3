pub mod LiteralValues
pub mod MetConstraintLaws
pub mod ReachedRelvars
pub mod TreeNumbers
pub mod UnfailingValues
pub mod ValueLaws
pub mod ValueTypes
