-- The laws that the proofs of this crate cite.
pub mod Showing
pub mod Indices
pub mod Games
