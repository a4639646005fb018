mod MarkLines
mod OneReadings
mod ReadTexts
mod SentMarks
