-- `replay::play` meets its contract. The loop's invariant: the records that are left do, from here, what all do from the
-- start. Assumes nothing.
use Prim.Native.Nat.{◌+◌, ◌≤◌}
use mathlib.Core.Path.{◌≡◌}
use lib.ListN.{length}
use Rattle.std.specs.Slice.Iter.{chunks_rest, chunks_size}
use Rattle.replay.specs.Stages.{record_bytes, stage_of, replayed}
use Rattle.replay.proofs.play.Given as goal

abbrev pub invariant-loop-record : goal.invariant-loop-record
invariant-loop-record l = record {
  size : chunks_size l.record-iterator ≡ record_bytes;
  done : replayed (chunks_rest l.record-iterator) (stage_of l.state) ≡ replayed l.chunk (stage_of l.initial.state);
  few : l.state.passed + length (chunks_rest l.record-iterator) ≤ l.initial.state.passed + length l.chunk;
}
