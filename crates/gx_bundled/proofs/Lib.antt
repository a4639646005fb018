mod ExcludedCommits
mod NamedRefs
mod ToldRefs
