-- The laws: from the search on bytes to the search on trees (Linked), and after a given answer (NextBytes).
pub mod Represents
pub mod Places
pub mod Parts
pub mod Turns
pub mod Levels
pub mod Walks
pub mod Linked
pub mod Givens
pub mod Followed
pub mod Spreading
pub mod NextBytes
