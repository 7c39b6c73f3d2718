-- What is shown of the closure.
pub mod Gauge
