pub mod Rowed
pub mod Stripes
pub mod Cuts
