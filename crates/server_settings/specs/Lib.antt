pub mod CommandLines
pub mod Links
pub mod Options
pub mod Settings
