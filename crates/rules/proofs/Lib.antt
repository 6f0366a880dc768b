-- The laws that lead from a rule sheet's bytes to its rules, and from there to the answer.
pub mod Rules
pub mod Checks
pub mod Turns
pub mod Endings
pub mod Demanded
