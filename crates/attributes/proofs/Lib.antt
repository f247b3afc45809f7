pub mod Laws
pub mod KnownLaws
pub mod Codes
pub mod SourceTables
pub mod Sources
pub mod Cases
pub mod Theorems
