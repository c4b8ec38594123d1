-- What the proofs of a load share, and the laws of loading.
-- numbers in bytes
pub mod NumberBytes
-- what a header that stops nothing says of the file
pub mod Headers
-- a load that goes from task to task
pub mod TaskLoop
-- the laws for the crates above
pub mod Laws
