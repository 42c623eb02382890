-- What is promised of matrices: Matrix, Tables, NoInverses. Elimination is what private functions cite.
pub mod Matrix
pub mod Tables
pub mod NoInverses
pub mod Elimination
