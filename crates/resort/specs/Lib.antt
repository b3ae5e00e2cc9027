pub mod Resort
