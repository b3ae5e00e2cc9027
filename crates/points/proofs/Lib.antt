pub mod PointSteps
pub mod PointsOnWords
pub mod Steps
