-- How records and patterns are read.
pub mod Brought
pub mod Lent
pub mod Node
pub mod Frame
pub mod Simple
pub mod Reading
