mod Digits
pub mod Laws
pub mod Listed
