-- What the public calls promise.
pub mod Calls
pub mod Contents
pub mod Crash
pub mod Frames
pub mod Images
pub mod Kept
pub mod Memory
pub mod Moments
pub mod Opening
pub mod Run
pub mod Told
