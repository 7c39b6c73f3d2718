-- What each public call promises, and what the demands say of that.
pub mod Check
pub mod Measure
pub mod Solve
pub mod Rebuild
pub mod ReadText
pub mod PrintText
pub mod Demands
