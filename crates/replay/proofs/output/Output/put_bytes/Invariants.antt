-- `replay::output::put_bytes` meets its contract. The loop's invariant: putting the bytes that are left gives what
-- putting all gives. Assumes nothing.
use mathlib.Core.Path.{◌≡◌}
use lib.ListN.{drop}
use Rattle.replay.specs.Waiting.{put}
use Rattle.replay.proofs.output.Output.put_bytes.Given as goal

abbrev pub invariant-loop-byte : goal.invariant-loop-byte
invariant-loop-byte l = put l.self.waiting.items (drop l.byte-index l.text) ≡ put l.initial.self.waiting.items l.text
