-- Spans of the difference of two times, the table of them for each two events, and the longer network that they make.
pub mod Shapes
pub mod Spans
pub mod Tables
pub mod Steps
pub mod Longer
