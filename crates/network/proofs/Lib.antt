-- The laws that the proofs of the functions, and the crates above, cite.
pub mod Scans
pub mod Refusing
pub mod Sound
pub mod Trials
pub mod Ranges
pub mod Arcs
pub mod Width
pub mod Times
pub mod Turns
pub mod Repeats
pub mod Links
