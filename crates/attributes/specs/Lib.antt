pub mod Mair
pub mod StageTwoType
pub mod Combine
pub mod Shareability
pub mod Order
pub mod Mirror
