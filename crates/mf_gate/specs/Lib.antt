-- What the public calls promise.
pub mod Table
pub mod Rows
pub mod Passes
pub mod Resting
