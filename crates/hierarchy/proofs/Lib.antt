pub mod SeatsAgree
pub mod InOrder
pub mod RowHolds
pub mod RowsHold
pub mod IsHierarchy
