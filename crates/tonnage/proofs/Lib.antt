pub mod Runs
pub mod Laying
pub mod Answers
pub mod Decimal
pub mod Spelling
pub mod RoundTrip
pub mod Sentence
