pub mod CannotFail
pub mod StaticCauses
pub mod StaticLaws
pub mod WrittenNames
