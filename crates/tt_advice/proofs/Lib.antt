mod Characters
mod Plain
mod Ranges
mod Truth
