use Rattle.std.proofs.Common.{◌∙◌, Some, sym, subst, arith}
use Rattle.trace_format.specs.Stages.{stage_of, IsFirstOpen}
use Rattle.trace_format.proofs.Heads.{first_asked, none_more}
use Rattle.trace_format.proofs.balance.first_open.Goals as goal

pub returns-then-asks_open : goal.returns-then-asks_open
returns-then-asks_open c =
    let stage = stage_of c.args.stages.now in
    subst (λ r. IsFirstOpen stage c.args.trace.now (Some r)) (sym c.id_of.ensures)
    (first_asked stage c.args.trace.now c.loop-place.place c.head-head.result (omega arith) c.head-head.ensures
    (sym c.asks_open.ensures ∙ c.if-asks_open.true) c.loop-place.invariant)

pub loop-place-preserved : goal.loop-place-preserved
loop-place-preserved c = none_more (stage_of c.args.stages.now) c.args.trace.now c.loop-place.place c.head-head.result c.head-head.ensures (sym c.asks_open.ensures ∙ c.if-asks_open.false) c.loop-place.invariant
