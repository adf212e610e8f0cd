pub mod Interleavings
pub mod WorldEvents
pub mod BookWorlds
pub mod RestoredBooks
pub mod ExampleInterleavings
