mod Lines
mod Shares
mod TwoBytes
