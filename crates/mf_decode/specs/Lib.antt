-- What the public calls promise.
pub mod Stripes
pub mod Answers
pub mod Decoding
pub mod Gathering
pub mod Caches
-- Words of private functions.
pub mod Fronts
pub mod Plans
pub mod Columns
pub mod Rows
