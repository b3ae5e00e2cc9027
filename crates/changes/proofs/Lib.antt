pub mod ChangedStop
