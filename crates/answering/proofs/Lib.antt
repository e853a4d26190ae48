mod Alone
mod Inputs
mod Turns
