-- The laws of the closure: of spans, of the table of them, of the arcs as spans, of the longer network, and of the whole.
pub mod Spans
pub mod Tables
pub mod Spread
pub mod Longers
pub mod Looks
