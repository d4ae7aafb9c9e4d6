mod Composing
mod FileEntries
mod LineSteps
