-- The laws that the proofs of this crate, and other crates, cite.

pub mod Checks
pub mod Entries
pub mod Words
pub mod Readings
pub mod Contents
pub mod Demands
