mod Blocks
mod Commits
mod Openings
mod Parts
mod Results
pub mod Runs
mod Shreds
mod Standing
mod Steps
pub mod Time
