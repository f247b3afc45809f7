pub mod Register
pub mod Plan
pub mod Demands
pub mod Mirror
