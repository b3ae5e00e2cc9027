-- The definitions of `text_numbers`: what a word gives, and decimal numbers.
pub mod Steps
pub mod Numbers
