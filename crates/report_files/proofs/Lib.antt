-- The laws of the files of a report.
pub mod Rooms
