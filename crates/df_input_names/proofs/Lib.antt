pub mod Words
pub mod Parameters
