pub mod Put
pub mod Listing
pub mod Program
