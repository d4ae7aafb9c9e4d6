mod Runs
mod JobRefusals
mod Plain
mod Made
mod Readings
