mod OnAxis
mod Units
