-- What a network is, the public rule, the table of refusals; then what inner functions ask and say.
pub mod Network
pub mod PublicRule
pub mod First
pub mod Refusals
pub mod Table
pub mod Rows
pub mod Trial
pub mod Pairs
pub mod Inner
pub mod Judged
