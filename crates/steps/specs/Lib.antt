-- One turn of the search on bytes.
pub mod Turn
