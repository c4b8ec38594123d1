-- `replay::play` meets its contract. Assumes nothing.
use native.Mathlib.Omega.{arith}
use mathlib.Core.Path.{sym, ◌∙◌}
use Rattle.std.proofs.lemmas.Bool.{and_parts}
use Rattle.std.proofs.lemmas.List.{nil_from_length}
use lib.ListN.{length-append}
use Rattle.std.specs.Slice.Iter.{chunks_rest}
use Rattle.replay.specs.Stages.{stage_of}
use Rattle.replay.proofs.Stages.{unfailed-bad, replay-on, replay-stop, one-passed}
use Rattle.replay.proofs.play.Goals as goal

pub loop-record-preserved : goal.loop-record-preserved
loop-record-preserved c =
    let step = c.in-Some.ensures.steps in
    let bytes = step.1.0 in
    let sized = rw (c.loop-record.invariant.size, bytes) at step.1.1 in
    let some = rw bytes at step.1.2 in
    let front = c.in-Some.record.now in
    let left = chunks_rest c.next.new.self in
    let good = (and_parts c.handle.new.self.good c.handle.new.self.output.ok (sym c.goes_on.ensures ∙ c.if-not-goes_on.false)).0 in
    record {
      size = step.0 ∙ c.loop-record.invariant.size;
      done = replay-on front left (stage_of c.loop-record.state) _ sized some c.handle.ensures good ∙ (rw bytes at c.loop-record.invariant.done);
      few = omega (arith, rw bytes at c.loop-record.invariant.few, one-passed front left (stage_of c.loop-record.state) _ sized some c.handle.ensures, length-append front left);
    }

pub returns-then-not-goes_on-clause-state_after : goal.returns-then-not-goes_on-clause-state_after
returns-then-not-goes_on-clause-state_after c =
    let step = c.in-Some.ensures.steps in
    let bytes = step.1.0 in
    let sized = rw (c.loop-record.invariant.size, bytes) at step.1.1 in
    let some = rw bytes at step.1.2 in
    λ ok.
    let bad = unfailed-bad c.handle.new.self.good c.handle.new.self.output.ok (sym c.goes_on.ensures ∙ c.if-not-goes_on.true) ok in
    replay-stop c.in-Some.record.now (chunks_rest c.next.new.self) (stage_of c.loop-record.state) _ sized some c.handle.ensures bad ∙ (rw bytes at c.loop-record.invariant.done)

pub returns-then-not-goes_on-clause-passed_bound : goal.returns-then-not-goes_on-clause-passed_bound
returns-then-not-goes_on-clause-passed_bound c =
    let step = c.in-Some.ensures.steps in
    let bytes = step.1.0 in
    let sized = rw (c.loop-record.invariant.size, bytes) at step.1.1 in
    let some = rw bytes at step.1.2 in
    let front = c.in-Some.record.now in
    let left = chunks_rest c.next.new.self in
    omega (arith, rw bytes at c.loop-record.invariant.few, one-passed front left (stage_of c.loop-record.state) _ sized some c.handle.ensures, length-append front left)

pub returns-clause-state_after : goal.returns-clause-state_after
returns-clause-state_after c =
    λ ok. rw (nil_from_length _ c.in-None.ensures.steps.1.0) at c.loop-record.invariant.done
