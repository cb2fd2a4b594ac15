-- Laws that the functions' proofs share, and document 01's example.
pub mod TableLaws
pub mod ExampleTableProof
