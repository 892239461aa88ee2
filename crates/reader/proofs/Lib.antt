pub mod ReadAll
