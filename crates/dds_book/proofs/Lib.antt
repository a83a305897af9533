pub mod PairSteps
pub mod RoundLaws
pub mod GaugeSteps
pub mod GaugeCuts
pub mod JournalLaws
pub mod KitLaws
pub mod BookLaws
