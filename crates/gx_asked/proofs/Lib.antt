mod EnteredTexts
mod EnteredCommands
mod ReadCommands
