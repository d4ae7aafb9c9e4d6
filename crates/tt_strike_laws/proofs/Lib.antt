mod Agreeing
mod Beside
mod FacesAlike
mod FewCrossings
mod LayoutLaws
mod Listing
mod MeasuredLayouts
mod MeasuredSteps
mod SidesRefuse
mod StepLaws
mod Unfilled
mod UnhintedSteps
mod Whole
pub mod GrownNeeded
pub mod GrownWhole
pub mod InkHeld
mod Larger
