-- Measure, solve and rebuild as antt computes them, that the contracts allow nothing else, and so the paper's cases.
pub mod Model
pub mod Models
pub mod Cases
