mod Limits
mod Loads
