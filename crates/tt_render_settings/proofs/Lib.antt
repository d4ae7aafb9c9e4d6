pub mod DrawnLines
pub mod StoppedLines
pub mod PassedOver
pub mod DefectLines
pub mod OneText
pub mod FontLines
pub mod FirstFaces
mod SideDigits
