-- What writes do to the bytes that a writer holds.
pub mod WrittenLaws
