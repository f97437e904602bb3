pub mod code
pub mod laws
pub mod model
