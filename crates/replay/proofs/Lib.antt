-- What the proofs of this crate share, and demand 3 of what it plays.
-- the waiting bytes after texts
mod Putting
-- which bits spell a NaN
mod NanBits
-- what records do, one after the other
mod Stages
-- demand 3 of the lists that are played
mod Laws
