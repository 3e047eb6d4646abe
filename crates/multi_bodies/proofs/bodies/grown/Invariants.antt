use Rattle.multi_bodies.specs.BodiesOf.{AreGrown}
use Rattle.multi_bodies.proofs.bodies.grown.Given as goal

abbrev pub invariant-loop-member : goal.invariant-loop-member
invariant-loop-member l = AreGrown l.member 18446744073709551615 l.texts l.own l.lens.items
