-- The laws of elements that are passed over together.
pub mod Chains
pub mod Passing
