-- What is put into a buffer: bytes, a field, a number in decimal.
pub mod Puts
pub mod Field
pub mod Decimal
