pub mod Puts
pub mod Parts
pub mod Texts
pub mod Told
