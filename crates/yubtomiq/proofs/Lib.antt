pub mod BothRuns
pub mod BothWays
