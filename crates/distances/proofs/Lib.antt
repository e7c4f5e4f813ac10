pub mod Rounded
pub mod Reject
pub mod Sums
pub mod Accept
pub mod Squares
pub mod Numbers
pub mod Wraps
