-- The laws that the proofs of this crate, and other crates, cite.
pub mod Puts
pub mod Fields
pub mod Decimals
