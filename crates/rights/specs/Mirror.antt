-- Definitions that only mirror the code of this crate, for all accesses of a leaf at once. Nothing below needs to be believed: each file names the
-- law that ties it.
pub mod Base
pub mod BaseMasks
pub mod Pass
pub mod Masks
pub mod Table
pub mod Words
pub mod Parts
pub mod Agreement
pub mod Groups
