pub mod TurnsAndRun
