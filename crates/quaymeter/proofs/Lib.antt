-- What the proofs of this crate share.
-- what is printed has room, and so is printed whole; an input that is too long
mod Printing
-- demand 3 of what is printed
pub mod Laws
