-- What a read came to.
pub mod FilledLaws
