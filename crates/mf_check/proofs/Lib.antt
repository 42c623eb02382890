pub mod Orders
pub mod Shifts
pub mod Parts
pub mod Stages
pub mod OneFault
