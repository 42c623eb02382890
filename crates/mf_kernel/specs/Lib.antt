-- What the public calls promise.
pub mod Dots
-- Tables of products, for lanes.
pub mod Tables
