pub mod Counts
pub mod Exchange
pub mod Ledger
pub mod Standing
