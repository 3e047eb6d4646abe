mod Bounds
mod Prints
