pub mod Numbers
pub mod Joined
pub mod Columns
pub mod Stored
pub mod Fields
pub mod Parts
