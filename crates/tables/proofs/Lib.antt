pub mod Integers
pub mod Loops
pub mod Rooms
pub mod CompactLaws
pub mod OneMoreLaws
