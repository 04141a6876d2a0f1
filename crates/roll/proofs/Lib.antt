pub mod Members
pub mod Places
pub mod Rising
pub mod Shift
pub mod Adds
pub mod Points
