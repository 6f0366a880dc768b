-- The laws that the proofs of the calls on a station cite.
pub mod Shown
