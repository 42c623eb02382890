mod Closings
mod Discards
mod Learning
pub mod Once
pub mod Few
pub mod Leaving
mod Pinned
mod Sparing
mod Gained
