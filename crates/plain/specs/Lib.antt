-- The plain tier: plain patterns, their match, the call, and what is demanded of it. Bytes is cited by the contracts of private functions only.
pub mod Plain
pub mod Check
pub mod Tier
pub mod Bytes
pub mod Call
pub mod Demands
