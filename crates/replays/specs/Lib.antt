pub mod Tally
pub mod Words
pub mod Values
pub mod FilledLaws
pub mod Report
