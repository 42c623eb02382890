-- What the public calls promise.
pub mod Create
pub mod Remove
pub mod Convert
pub mod Laws
pub mod Texts
-- Words of private functions.
pub mod Building
pub mod Converting
pub mod Cells
