pub mod Apart
pub mod CauseLaws
pub mod NameLaws
pub mod Spaced
pub mod Spans
pub mod Spellings
pub mod TokenLaws
