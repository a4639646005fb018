pub mod DroppedLines
