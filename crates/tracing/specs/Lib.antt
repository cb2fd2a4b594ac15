-- What a run over the entries at the start of some bytes leaves, and the lines that it writes.
pub mod parts
