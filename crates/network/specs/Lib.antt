pub mod Limits
pub mod Rows
pub mod Nets
pub mod Parts
