-- The files of a report: where each has its room, and what is known of loading them.
pub mod Files
pub mod Loading
