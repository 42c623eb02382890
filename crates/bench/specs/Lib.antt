pub mod Stripes
pub mod Files
