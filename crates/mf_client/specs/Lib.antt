-- What the public calls promise.
pub mod Lacks
pub mod Clients
pub mod OnFile
pub mod Sweeps
pub mod Acts
pub mod Runs
pub mod Laws
pub mod Texts
-- Words of private functions.
pub mod Steps
pub mod Hashes
