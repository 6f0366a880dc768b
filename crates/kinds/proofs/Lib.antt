-- The laws of the kinds, and of the list of the codes.
pub mod Table
pub mod Ranges
pub mod Codes
