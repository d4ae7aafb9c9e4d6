pub mod Laws
pub mod StepLaws
pub mod LayoutLaws
pub mod UnhintedSteps
pub mod ReadingLaws
pub mod InkLaws
