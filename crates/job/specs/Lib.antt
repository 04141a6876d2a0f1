pub mod Causes
pub mod Checks
pub mod Bytes
pub mod Loads
pub mod Jobs
