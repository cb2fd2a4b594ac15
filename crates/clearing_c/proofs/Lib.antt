-- Laws that belong to no one function.
pub mod InWordsProof
pub mod NumberLaws
pub mod WholeJournalLaws
