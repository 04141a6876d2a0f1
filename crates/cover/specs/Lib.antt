pub mod Cubes
pub mod Tables
pub mod Bytes
pub mod Covers
pub mod Laws
pub mod Answers
