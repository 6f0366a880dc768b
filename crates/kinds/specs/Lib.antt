-- The kinds of codes, and their list.
pub mod Kind
pub mod Codes
