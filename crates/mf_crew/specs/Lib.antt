-- What the public call promises.
pub mod Files
pub mod Alone
pub mod Live
pub mod Tales
pub mod Laws
-- Words of private functions, which no promise has.
pub mod Parts
