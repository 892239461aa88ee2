-- What is stated, and then the plain facts that contracts and laws speak of. proofs/Lib.antt has the reading order of the whole. Assumes nothing.
pub mod Demand3
pub mod Answers
pub mod Changes
pub mod Orders
pub mod Rows
pub mod Accepted
pub mod Parents
pub mod Threads
