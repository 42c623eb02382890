pub mod Mendings
pub mod Turns
