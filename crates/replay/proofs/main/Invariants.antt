-- `replay::main` is safe and ends. The loop's invariant: the records of the turns can be numbered, and one more. Assumes nothing.
use Prim.Native.Nat.{◌*◌, ◌≤◌}
use Rattle.replay.proofs.main.Given as goal

abbrev pub invariant-loop-turn : goal.invariant-loop-turn
invariant-loop-turn l = l.state.passed ≤ 65_536 * l._turn
