pub mod TwoPoints
