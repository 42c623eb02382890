-- What the public call promises.
pub mod Reclaim
pub mod Laws
pub mod Texts
-- Words of private functions.
pub mod Collecting
