-- Lines 4 to 10 of "Supplier file".
pub mod Lines
pub mod parts
