-- What reading and writing bytes answers beside a length.
pub mod Answers
