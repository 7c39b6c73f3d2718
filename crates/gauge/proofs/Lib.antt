-- The row of five numbers for each arc.
pub mod Numbers
