pub mod Anys
pub mod Lists
pub mod Contexts
pub mod Plans
pub mod Valued
pub mod Lanes
pub mod Rounds
pub mod Once
