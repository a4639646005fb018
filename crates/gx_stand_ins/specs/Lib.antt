pub mod StandIns
pub mod Asked
pub mod MoreAsked
pub mod SmallRepositories
pub mod Bodies
pub mod StandInNames
pub mod StandInLaws
pub mod Rows
