pub mod Values
pub mod Same
pub mod Claims
