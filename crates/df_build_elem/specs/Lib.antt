pub mod Blocks
pub mod Program
pub mod Laying
pub mod Laws
pub mod Finished
pub mod Refusals
