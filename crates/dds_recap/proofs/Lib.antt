pub mod Following
pub mod Going
pub mod Journeys
pub mod Numbers
pub mod Worlds
