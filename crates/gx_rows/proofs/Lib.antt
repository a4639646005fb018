mod Parting
mod Standing
