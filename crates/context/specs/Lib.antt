pub mod Care
pub mod Ranks
pub mod Levels
pub mod Windows
pub mod Extracts
pub mod Claims
pub mod Cases
