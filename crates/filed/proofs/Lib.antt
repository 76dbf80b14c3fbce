mod Empty
mod Fits
