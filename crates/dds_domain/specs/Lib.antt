pub mod Bus
pub mod Noted
pub mod Schedule
pub mod Standing
pub mod View
pub mod Opening
pub mod Sendings
