pub mod Linear
pub mod FieldLaws
pub mod Powers
pub mod SumLaws
pub mod Entries
pub mod Generator
pub mod Parities
