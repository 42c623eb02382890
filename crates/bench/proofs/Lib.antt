mod Getting
mod Filling
mod Seated
