pub mod InPlace
pub mod Separation
