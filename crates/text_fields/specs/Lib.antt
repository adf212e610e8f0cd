pub mod Fields
pub mod FieldReading
