pub mod Mentions
pub mod OperatorTypes
pub mod Scopes
pub mod StatementTypes
pub mod StaticTypes
