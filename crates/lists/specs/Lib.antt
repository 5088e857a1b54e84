pub mod Ascii
pub mod Members
pub mod Search
pub mod Tables
