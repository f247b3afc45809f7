pub mod PackingLaws
pub mod Exported
