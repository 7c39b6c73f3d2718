-- What the contracts of `text`, and of the crates above, cite.
pub mod Bytes
pub mod Number
pub mod Line
pub mod Text
pub mod Cases
pub mod Cursor
pub mod Judge
pub mod Fill
pub mod Put
pub mod Sink
pub mod ArcRows
