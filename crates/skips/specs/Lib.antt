-- Elements that are passed over together.
pub mod Passed
