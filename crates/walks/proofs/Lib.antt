-- The laws of walks, labels and times; the theorem that tensions are consistent exactly if they close; the functions' numbers and rows.
pub mod Walks
pub mod Labels
pub mod Arcs
pub mod Rows
pub mod Model
pub mod Models
pub mod Theorems
pub mod Bounds
