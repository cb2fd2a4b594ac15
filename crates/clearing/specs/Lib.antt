-- What the contracts of the lent calls cite.
pub mod LentLeaves
