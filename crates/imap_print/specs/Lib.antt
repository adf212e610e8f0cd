pub mod Appending
pub mod Reading
pub mod ReadingAnswers
pub mod Tables
pub mod Lines
