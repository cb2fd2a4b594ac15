-- The boundary to C and Rust: what each function answers and leaves.
pub mod Boundary
