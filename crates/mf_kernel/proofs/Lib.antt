pub mod Zips
pub mod Lent
pub mod Blocks
pub mod Fronts
pub mod Tables
pub mod Scaled
pub mod Dotted
pub mod RowLists
mod RowTables
