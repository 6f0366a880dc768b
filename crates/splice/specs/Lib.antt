-- Splicing (document 02, L6): what it does, what is turned into each other by it, the converter, and what is demanded of them.
pub mod Splicing
pub mod Turning
pub mod Converting
pub mod Demands
pub mod Pass
pub mod Call
