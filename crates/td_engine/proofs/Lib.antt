pub mod code_lemmas
pub mod law_lemmas
