mod Whole
mod Places
