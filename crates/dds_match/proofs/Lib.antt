pub mod Brought
pub mod Capped
mod EachPlace
pub mod Known
pub mod Marking
pub mod Pacing
pub mod Parts
pub mod Patterns
pub mod Reasons
pub mod Sums
