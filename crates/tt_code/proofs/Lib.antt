mod Going
mod Least
mod Passed
