mod Decimals
mod Pairs
mod Shown
mod Writing
