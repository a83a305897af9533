pub mod Flight
pub mod Standing
