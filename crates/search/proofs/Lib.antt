-- The laws of the search: rows that agree, the reduction to unsigned numbers, the threads, the marks, the steps, and that the computed search is right.
pub mod Agreeing
pub mod Reducing
pub mod Threads
pub mod Model
pub mod Marking
pub mod Steps
pub mod Models
