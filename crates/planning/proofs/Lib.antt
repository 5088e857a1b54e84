pub mod Few
pub mod Joined
pub mod Kept
pub mod Opened
pub mod OutBatch
pub mod Passing
pub mod Words
