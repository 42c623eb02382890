pub mod Grids
pub mod Linear
pub mod Steps
pub mod Sums
pub mod Inverses
pub mod Kernels
pub mod Pivots
pub mod Same
