-- What the contracts of `walks` cite. Walk, Part and Times are the paper's words; Label and Place serve the functions.
pub mod Walk
pub mod Part
pub mod Times
pub mod Label
pub mod Place
