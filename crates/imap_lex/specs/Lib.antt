pub mod Frames
pub mod MarkReading
pub mod Marks
pub mod Framing
