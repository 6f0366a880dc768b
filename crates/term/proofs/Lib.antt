-- The laws that the proofs of this crate, and other crates, cite.
pub mod Bools
pub mod Lists
pub mod Pairs
pub mod Stores
pub mod Tables
pub mod Codes
pub mod Trees
pub mod Sizes
pub mod Spans
pub mod SameParts
pub mod Classes
pub mod Splicing
pub mod Joins
pub mod Demands
