-- `apportion::units::add_units` meets its contract: up to place k each share has its unit, and `earlier` counts the places at the bound.
-- Assumes nothing.
use Rattle.apportion.proofs.UnitLoop.{Handing}
use Rattle.apportion.proofs.units.add_units.Given as goal

abbrev pub invariant-loop-k : goal.invariant-loop-k
invariant-loop-k l = Handing l.remainders l.least l.left l.initial.shares l.shares l.earlier l.k
