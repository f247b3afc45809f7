-- Definitions that only mirror the code of this crate. Nothing below needs to be believed: each file names the law that ties it.
pub mod Writer
