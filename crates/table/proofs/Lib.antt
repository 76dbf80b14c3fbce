mod Paths
mod Routes
mod Turns
mod Judgements
mod Frames
mod Station
mod Checked
