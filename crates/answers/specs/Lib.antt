-- What a match answers: document 01's number, and the values beside it.
pub mod Refusal
pub mod Fault
pub mod Part
pub mod Shown
pub mod Answers
