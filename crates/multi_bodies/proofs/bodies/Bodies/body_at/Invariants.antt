use Rattle.std.proofs.Common.{◌≡◌, ◌++◌, drop}
use Rattle.multi_bodies.specs.BodiesOf.{body_at}
use Rattle.multi_bodies.proofs.bodies.Bodies.body_at.Given as goal

abbrev pub invariant-loop-piece : goal.invariant-loop-piece
invariant-loop-piece l = l.bytes.items ++ body_at l.member (drop l.piece-index l.piece-items) ≡ body_at l.member l.piece-items
