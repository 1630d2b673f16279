pub mod Firsts
pub mod Hands
pub mod Opening
pub mod Starts
