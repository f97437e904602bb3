pub mod law_lemmas
pub mod code_lemmas
