-- What the text of a stream gives comes back, and is shown; and what a refused one leaves.
pub mod ComingBack
pub mod KeptCheckpoints
pub mod ListedRanges
pub mod ShownImports
