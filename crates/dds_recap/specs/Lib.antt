pub mod Ends
pub mod Explanation
pub mod Held
pub mod Idling
pub mod Lines
pub mod Recap
pub mod Tally
pub mod Waits
