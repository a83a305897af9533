pub mod CircleLists
pub mod SeatDelays
pub mod ListLaws
pub mod Owners
pub mod SeatLaws
