-- Elements of several chains, for the walks of a statement and of the class total. Assumes nothing.
use Rattle.std.specs.Prelude.{Bool, ℕ}
use Rattle.book_words.specs.Measures.{between}
use Rattle.book_words.specs.declared.records.Element.{Element}

-- an element of one of the chains from `first` to `last`
abbrev pub of_chains : ℕ → ℕ → Element → Bool
of_chains first last e = between first last e.chain
