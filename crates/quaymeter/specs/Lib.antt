-- What a reader has to believe: what is printed for the bytes of a file, and demand 3 of it.
pub mod Program
pub mod Conserving
