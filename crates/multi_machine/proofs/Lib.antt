mod Apart
mod Lockstep
mod Together
