mod Checks
mod Choosing
mod Costs
mod Orders
mod Ways
