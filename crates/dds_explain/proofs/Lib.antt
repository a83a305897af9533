mod ExplainLaws
mod Periods
