pub mod Judge
pub mod LeafRights
pub mod List
pub mod Answers
pub mod Demands
pub mod Cases
pub mod Mirror
