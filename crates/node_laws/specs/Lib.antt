pub mod ByNumber
pub mod Copies
pub mod Unions
