pub mod Following
pub mod Account
pub mod Guard
pub mod Refusals
pub mod Opening
