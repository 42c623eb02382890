-- What the public calls promise.
pub mod Stages
pub mod Chain
pub mod Faults
pub mod Texts
-- Words of private functions.
pub mod Rules
