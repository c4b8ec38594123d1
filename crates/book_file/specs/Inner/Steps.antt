-- The steps of a load: what inner functions require and promise. Assumes nothing.
use Rattle.std.specs.Prelude.{Bool, cond, List, ℕ, Result, Ok, Err}
use Rattle.apportion.specs.Refusals.{number_of}
use Rattle.book_file.specs.declared.answers.Load.{Load}
use Rattle.book_file.specs.declared.answers.Load.TheVariants.{Loaded, Stopped}
use Rattle.book_file.specs.declared.answers.Stop.{Stop}
use Rattle.book_file.specs.Loading.{Task, Loading, loading_of, made}

-- a task where it is asked for; where it is not, the book is left as it is
abbrev pub made_if : Bool → List ℕ → Task → Loading
made_if asked ws task = cond asked (made ws task) (loading_of Loaded ws)

-- a result as the answer of a load
abbrev pub answer_in : {A : Type 0} → Result A Stop → Load
answer_in (Ok done) = Loaded
answer_in (Err stop) = Stopped (number_of stop.refusal) stop.place
