pub mod Plan
pub mod Joined
