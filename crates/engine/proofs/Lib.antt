-- Laws that belong to no one function.
pub mod LentCalls
pub mod LentDue
pub mod LentRemovals
