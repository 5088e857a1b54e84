pub mod Outcome
pub mod Fault
