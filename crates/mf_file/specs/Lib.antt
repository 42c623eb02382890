-- What the public calls promise.
pub mod Calls
pub mod File
pub mod Images
pub mod Law
pub mod Told
