mod LabelCalls
mod LabelLines
mod LabelTexts
mod SentLabels
