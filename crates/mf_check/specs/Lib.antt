-- What is promised of families: Families, Faults, Sets, Texts. Search is what private functions cite.
pub mod Sets
pub mod Families
pub mod Faults
pub mod Search
pub mod Texts
