pub mod Offered
pub mod Stage
pub mod Parent
pub mod RowPart
pub mod Climbed
pub mod Looked
