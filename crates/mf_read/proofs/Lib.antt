pub mod Turns
pub mod Asked
pub mod Leaving
pub mod Few
pub mod Props
pub mod Readers
pub mod Told
pub mod Parted
pub mod Sinces
pub mod Grouped
pub mod Gathered
pub mod Entries
pub mod Shortage
pub mod Handed
pub mod Stripewise
pub mod OnceRead
pub mod OneRead
mod Gained
