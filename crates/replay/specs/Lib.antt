-- What a reader has to believe: the words of a record, what each operation prints and does, and demand 3 of the lists that are played.
-- `Inner` serves the contracts of inner functions.
pub mod Words
pub mod Text
pub mod Waiting
pub mod Cells
pub mod Answers
pub mod Replay
pub mod Stages
pub mod Conserving
pub mod Inner
