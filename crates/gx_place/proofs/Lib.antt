mod HandingOn
mod Outcomes
