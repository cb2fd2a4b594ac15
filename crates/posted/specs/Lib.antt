-- What the contracts of program `posted` cite.
pub mod Posting
