-- What the public call promises.
pub mod Repair
pub mod Laws
pub mod Texts
-- Words of private functions.
pub mod Mending
