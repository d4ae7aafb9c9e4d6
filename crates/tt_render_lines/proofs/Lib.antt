mod MeasureLines
mod LayoutCalls
mod SentTexts
