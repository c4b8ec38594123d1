-- What the proofs of the calls share, and the laws of the calls.
-- the amounts of a quote
pub mod QuotedAmounts
-- a call's tests as the grounds of its definition
pub mod TestsAsGrounds
-- what holds where a call is accepted
pub mod AcceptedCalls
-- a line as the post of its converted cells
pub mod LinesAsPosts
-- ground 10 by the sums that a record would make
pub mod GroundTen
-- the sums of ground 10 after a closing
pub mod SumsAfterCall
-- an accepted call leaves a sound book sound
pub mod CallsKeepSound
-- the laws for the crates above
pub mod Laws
-- what the walk of a statement holds
pub mod StatementWalk
