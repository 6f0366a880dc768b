-- The laws that the proofs of this crate, and other crates, cite.
pub mod Answers
pub mod Nodes
pub mod Inverse
pub mod Typed
pub mod Editions
pub mod Steps
pub mod Frames
pub mod Shallow
