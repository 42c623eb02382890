pub mod Spread
pub mod Bridge
pub mod Others
pub mod Places
