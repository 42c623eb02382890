-- What the public calls promise, and what the private ones cite.
pub mod Plans
pub mod Tables
