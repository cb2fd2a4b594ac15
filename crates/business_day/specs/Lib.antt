-- What the contracts of program `business_day` cite.
pub mod Answering
