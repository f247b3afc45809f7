pub mod Digits
pub mod Lengths
pub mod WriterLaws
pub mod Files
pub mod LineLaws
