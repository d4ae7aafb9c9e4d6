mod LabelInk
mod GrownInk
mod GrownBitmaps
