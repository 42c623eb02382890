pub mod Asking
pub mod Reading
pub mod Taking
pub mod Laws
pub mod Texts
-- what a stripe is asked from, and what came of it
pub mod Groups
pub mod Stripes
pub mod Gathers
-- words of private functions
pub mod Nobody
pub mod Steps
