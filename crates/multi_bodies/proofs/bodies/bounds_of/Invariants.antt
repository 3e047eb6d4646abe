use Rattle.std.proofs.Common.{◌≤◌, ◌<◌, ℕ, get_or}
use Rattle.multi_bodies.specs.BodiesOf.{AreReached}
use Rattle.multi_bodies.proofs.bodies.bounds_of.Given as goal

abbrev pub invariant-loop-len : goal.invariant-loop-len
invariant-loop-len l = record {
  within : (i : ℕ) → i < l.len-index → (l.bounds.least ≤ get_or l.lens i 0) × (get_or l.lens i 0 ≤ l.bounds.most);
  reached : AreReached l.bounds.least l.bounds.most l.lens;
}
