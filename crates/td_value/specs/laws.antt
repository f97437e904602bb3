pub mod AgreementLaws
pub mod KnownValueLaws
pub mod Laws
pub mod LiteralTrees
