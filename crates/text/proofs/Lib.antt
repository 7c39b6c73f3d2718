-- The laws that the proofs of the functions, and the crates above, cite.
pub mod Cases
pub mod Each
pub mod Lines
pub mod Numbers
pub mod Records
pub mod Scans
pub mod Told
pub mod Cursors
pub mod Judges
pub mod Fills
pub mod Rows
pub mod Puts
pub mod RoundTrip
