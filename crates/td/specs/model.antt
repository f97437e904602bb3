pub mod CommandLine
pub mod Sessions
