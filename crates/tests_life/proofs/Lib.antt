mod Phases
mod Following
mod Visited
