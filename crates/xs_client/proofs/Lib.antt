mod Asking
mod Writing
mod Twice
