-- The definitions of the code's algebra, and of a file's chunks, stripes and parities. A byte is a number below 256,
-- and a sum of bytes is their exclusive or.
pub mod Field
pub mod Sums
pub mod Rows
pub mod Chunks
pub mod Stripes
pub mod Decodable
