-- Replacement: a template's instance, its limits, the calls that look and apply, and what is demanded of them.
pub mod Instance
pub mod Loose
pub mod Splice
pub mod Growth
pub mod Call
pub mod Demands
pub mod Filling
