-- What the public calls promise.
pub mod Resting
pub mod Alone
pub mod Standing
pub mod Whole
pub mod Parts
-- What the fields are, and what a call makes of them.
pub mod Kept
pub mod Stored
pub mod Found
