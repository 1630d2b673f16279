pub mod Words
pub mod Numbers
pub mod Schedules
pub mod Printed
pub mod Inputs
pub mod Readers
pub mod Laws
