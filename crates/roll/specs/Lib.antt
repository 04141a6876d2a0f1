pub mod Rolls
pub mod Adding
pub mod Signals
