-- The laws that the proofs of this crate, and other crates, cite.
pub mod Forms
pub mod Frames
pub mod Inverse
pub mod Steps
pub mod Passing
pub mod Puts
pub mod Demands
