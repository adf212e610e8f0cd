pub mod Civil
pub mod Cuts
pub mod SelectedLines
pub mod HeaderFields
pub mod TextLines
pub mod HeaderAndBody
pub mod TextSearch
