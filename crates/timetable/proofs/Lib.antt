-- The ways out of the public calls, that each answer is the only one, what check accepts, how small a cost is, that texts read back, and demands 1 to 3.
pub mod Judging
pub mod Checks
pub mod Measures
pub mod PrintTexts
pub mod ReadTexts
pub mod Solves
pub mod Sheets
pub mod Rebuilds
pub mod One
pub mod Demand1
pub mod Demand2
pub mod Demand3
pub mod Again
pub mod Accepts
pub mod Costs
pub mod Turned
pub mod Repeated
