-- The calls of the cases, and the list.
pub mod Calls
pub mod Cases
