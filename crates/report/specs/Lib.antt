-- What the table of a journal is and what is claimed of it; what is given of its notices, and how long they are at most.
pub mod Report
pub mod NoticesOf
pub mod parts
