pub mod Filled
pub mod Loops
pub mod Membership
pub mod Positions
pub mod Searches
pub mod Stores
pub mod Tables
pub mod Tests
