mod Staying
mod Listing
mod Probed
mod Restored
mod Same
mod Rising
mod Telling
mod Placed
pub mod Bounded
pub mod Leaving
mod Mended
pub mod OneRepair
mod Gained
