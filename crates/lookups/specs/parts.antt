-- Definitions that serve the contracts of inner functions; they state no rule of the documents.
pub mod Walk
