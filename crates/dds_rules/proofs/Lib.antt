pub mod CountLaws
pub mod Firing
pub mod Opening
pub mod PortionLaws
pub mod Worlds
