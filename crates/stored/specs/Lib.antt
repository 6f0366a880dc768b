-- The stored form of records, document 02's L7: its bytes, how it is read, and the calls from the old form to it and back.
pub mod Form
pub mod Reading
pub mod Move
pub mod Passes
pub mod Demands
