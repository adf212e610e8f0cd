pub mod Engine
pub mod ModifiedUtf7
pub mod Reading
