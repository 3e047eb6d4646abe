use Rattle.std.proofs.Common.{◌∙◌, ap, arith}
use Rattle.std.specs.Prelude.{Some}
use Rattle.history.specs.Seats.{at_seat, seated}
use Rattle.history.proofs.Seated.{set_seated, one_more}
use Rattle.history.proofs.seats.put_at.Goals as goal

pub loop-seats-preserved : goal.loop-seats-preserved
loop-seats-preserved g c = (
  grind arith,
  (ap at_seat c.push_reserved.ensures.items ∙ one_more c.loop-seats.seats.items ∙ c.loop-seats.invariant.1),
)

pub returns-clause-put : goal.returns-clause-put
returns-clause-put g c =
    set_seated c.loop-seats.seats.items c.args.seat (Some c.args.value) (omega arith)
    ∙ ap (seated c.args.seat (Some c.args.value)) (c.loop-seats.invariant.1 ∙ ap at_seat c.reserve.ensures.items)
