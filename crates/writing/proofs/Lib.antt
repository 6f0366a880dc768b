-- The laws that the proofs of this crate, and other crates, cite.
pub mod Lengths
pub mod Stores
pub mod Writings
pub mod Demands
