pub mod Keys
pub mod Adding
pub mod Weights
pub mod Rows
pub mod Bounds
pub mod Totals
pub mod Document
pub mod Faults
