pub mod Tables
pub mod Shared
pub mod Parts
pub mod Whole
pub mod Unbound
pub mod Seats
pub mod Left
pub mod Noted
