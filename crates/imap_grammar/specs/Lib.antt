pub mod CommandReading
pub mod KeyReading
pub mod Reading
