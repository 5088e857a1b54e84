pub mod Admission
pub mod Arrange
pub mod Chain
pub mod Walk
