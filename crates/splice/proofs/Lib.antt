-- Laws and theorems.
pub mod ByClass
pub mod Splicing
pub mod Classes
pub mod Turning
pub mod Converting
pub mod Within
pub mod Typed
pub mod Demands
pub mod Examples
pub mod Stored
pub mod Heads
pub mod Nodes
pub mod Passes
pub mod Conversions
