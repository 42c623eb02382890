-- What the public calls promise.
pub mod Facts
pub mod Names
pub mod Numbers
pub mod Generations
pub mod Placement
pub mod Servers
pub mod Texts
-- Words of private functions.
pub mod Kept
pub mod Rows
