pub mod Filling
pub mod Lending
pub mod Worded
pub mod Paged
