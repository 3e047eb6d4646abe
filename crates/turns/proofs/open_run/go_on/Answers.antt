use Rattle.std.proofs.Common.{[], subst, sym}
use Rattle.std.proofs.lemmas.Result.{IfOk-weaker}
use Rattle.history.specs.Seats.{at_seat}
use Rattle.machine.specs.Follows.{WaitsAfter}
use Rattle.machine.specs.declared.ending.MachineStep.TheVariants.{Wants, Ends}
use Rattle.turns.specs.Seated.{IsSeated}
use Rattle.turns.specs.Turned.{Moves}
use Rattle.turns.proofs.Steps.{open_here, ending_is, departs}
use Rattle.turns.proofs.open_run.go_on.Goals as goal

pub act-requires-clause-waits : goal.act-requires-clause-waits
act-requires-clause-waits g c =
    let program = c.args.recording.now.program in
    let here = at_seat c.args.recording.now.visits c.args.seat in
    let o = open_here program here c.in-Some.machine (subst (λ run. IsSeated program here run) c.in-Some.is c.requires.seated) in
    record {
      visit = o.0;
      here' = o.1;
      follows = c.in_ok-op.ensures.follows program o.0.request o.0.answers o.2.follows;
      waits = subst (λ step. WaitsAfter step c.run.new.self) c.in-Wants.is c.in_ok-op.ensures.waits;
      short = o.2.short;
      wants = ending_is program o.0 c.in_ok-op.field-0 (Wants c.in-Wants.op) c.in-Wants.is
          (c.in_ok-op.ensures.tells program o.0.request o.0.answers o.2.follows);
    }

pub take_down-requires : goal.take_down-requires
take_down-requires g c =
    let program = c.args.recording.now.program in
    let here = at_seat c.args.recording.now.visits c.args.seat in
    let o = open_here program here c.in-Some.machine (subst (λ run. IsSeated program here run) c.in-Some.is c.requires.seated) in (
      o.0,
      o.1,
      ending_is program o.0 c.in_ok-op.field-0 (Ends c.in-Ends.response c.in-Ends.path) c.in-Ends.is
          (c.in_ok-op.ensures.tells program o.0.request o.0.answers o.2.follows),
    )

pub returns-in-Ends : goal.returns-in-Ends
returns-in-Ends g c =
    let old = c.args.recording.now in
    let new = c.take_down.new.recording in
    let dice = c.args.dice.now in
    let reading = g.C.Clock.reading c.args.clock.now in
    let here = at_seat old.visits c.args.seat in
    let o = open_here old.program here c.in-Some.machine (subst (λ run. IsSeated old.program here run) c.in-Some.is c.requires.seated) in
    IfOk-weaker c.take_down.result _ _
    (λ happening told.
    subst (λ run. Moves reading c.args.seat [] happening old new dice dice run) (sym c.put.ensures)
    (departs reading c.args.seat c.in-Ends.response c.in-Ends.path told.0 happening old new dice o.0 told.2 told.1 o.1 o.2.few))
    c.take_down.ensures
