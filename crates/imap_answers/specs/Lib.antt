pub mod Printable
pub mod AnswerText
pub mod Strings
pub mod Words
