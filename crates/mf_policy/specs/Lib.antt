-- What the public calls promise.
pub mod Policies
pub mod Due
