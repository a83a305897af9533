pub mod Delays
pub mod RunFault
pub mod Steady
