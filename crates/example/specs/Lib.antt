-- The least record that satisfies a pattern: document 02's L10. Only the contracts of private functions cite Odometer and Inner.
pub mod Strings
pub mod Trial
pub mod Least
pub mod Call
pub mod Demands
pub mod Odometer
pub mod Inner
