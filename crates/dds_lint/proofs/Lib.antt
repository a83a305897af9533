mod EndlessLaws
mod EveryLaws
pub mod FirstOfAll
mod FiringLaws
mod FiringRounds
pub mod LoopLaws
mod SpreadLaws
