-- The laws that the proofs of this crate cite.
pub mod Checks
pub mod Copies
pub mod Shapes
pub mod Sound
pub mod Results
pub mod Changes
pub mod Records
pub mod Names
pub mod Entries
pub mod Calls
pub mod Sessions
pub mod Orders
pub mod Demands
