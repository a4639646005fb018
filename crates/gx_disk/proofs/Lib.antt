mod Notes
mod Stops
