-- What the contracts of `numbers`, and of the crates above, cite.
pub mod Divisor
pub mod Remainder
pub mod Row
