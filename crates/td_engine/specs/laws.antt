pub mod Additions
pub mod LeftOut
pub mod LegalityLaws
pub mod Rebuilding
