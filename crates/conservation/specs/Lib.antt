-- What a reader has to believe: the tally, the run of a list of calls, demand 3, the class total by it, and the starred cases.
pub mod Tally
pub mod Runs
pub mod Conserved
pub mod ClassTotal
pub mod Starred
