pub mod Word
pub mod Lent
