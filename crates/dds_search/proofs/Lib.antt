pub mod Claimed
mod Asking
mod GivenUp
mod Witnessed
mod Unaccepted
mod Never
mod Growing
mod Summed
