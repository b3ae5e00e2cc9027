pub mod Courses
pub mod Drawing
pub mod Examples
pub mod OneStop
pub mod StopsDrawn
