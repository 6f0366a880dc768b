-- The laws of masks, packed parts and what is shown.
pub mod Masks
pub mod Shown
