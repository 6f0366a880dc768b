-- Tables, codes, terms and patterns, their bytes and limits, and when they are the same. In document 01's order.
pub mod Table
pub mod Code
pub mod Tree
pub mod Term
pub mod Pattern
pub mod Class
pub mod Language
pub mod Lent
pub mod Splicing
pub mod Limits
pub mod Extent
pub mod Same
pub mod Part
pub mod Moment
