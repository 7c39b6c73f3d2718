-- The network in unsigned numbers, and what the search finds; then the arcs of each event, the marks and the blame, and what the steps ask
-- and say.
pub mod Reduced
pub mod Looked
pub mod Threads
pub mod Marks
pub mod Steps
pub mod Lent
