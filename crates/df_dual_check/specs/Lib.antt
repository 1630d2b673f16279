pub mod Checked
pub mod DualTexts
pub mod LinesRead
pub mod Rows
pub mod Laws
