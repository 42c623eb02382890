pub mod Maps
pub mod Rowed
pub mod Passing
pub mod Named
pub mod Seats
pub mod Leaving
pub mod Opening
pub mod Resting
