-- What each variable is assigned, as numbers, and what is shown of it.
pub mod Packed
pub mod Shown
