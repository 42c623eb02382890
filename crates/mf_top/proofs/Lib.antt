mod Running
mod Ending
mod Summing
mod Once
mod Serving
mod Reporting
