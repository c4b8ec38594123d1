-- `replay::state::new` meets its contract. Assumes nothing.
use Rattle.replay.proofs.state.State.new.Goals as goal

pub returns-clause-value : goal.returns-clause-value
returns-clause-value c = rw (c.new.ensures, c.new-2.ensures, c.new-3.ensures, c.new-4.ensures.waiting_value)
