pub mod Numbers
pub mod Passes
pub mod Values
pub mod Inputs
pub mod Replace
pub mod Same
