use Rattle.std.proofs.Common.{subst, sym}
use Rattle.desk.specs.Runs.{Runs, call}
use Rattle.desk.proofs.Histories.{one_more}
use Rattle.shared_desk.specs.Kept.{calls_of}
use Rattle.shared_desk.proofs.Told.{new_call_of, called_told}
use Rattle.shared_desk.proofs.shared.Desk.call_as.Goals as goal

pub finish-requires-clause-call : goal.finish-requires-clause-call
finish-requires-clause-call g c =
    let steps = g.B.Bench.steps in
    let keeps = g.J.CallJournal.keeps in
    let start = c.args.self.now.table.shared.key.value in
    let taken = c.take-held.ensures.taken in
    new_call_of steps start keeps c.args.seat.now.me.0 c.take-held.result c.take-held.new.seat.me taken c.make_call.new.held
    c.args.number c.args.event c.in-Ok.reply c.requires.number c.in-Ok.ensures.calls
    (subst (λ l. Runs steps start l c.make_call.new.held.state) (sym c.in-Ok.ensures.calls)
    (one_more steps start (calls_of c.take-held.result) c.take-held.result.state (call c.args.number c.args.event c.in-Ok.reply)
    c.make_call.new.held.state taken.found.runs c.in-Ok.ensures.steps))
    (c.in-Ok.ensures.keeps taken.journal)

pub returns-in-Ok-clause-called : goal.returns-in-Ok-clause-called
returns-in-Ok-clause-called g c =
    let steps = g.B.Bench.steps in
    let keeps = g.J.CallJournal.keeps in
    let start = c.args.self.now.table.shared.key.value in
    let rests = c.requires.rests in
    called_told steps start keeps c.args.seat.now.me.0 c.take-held.result c.take-held.new.seat.me c.take-held.ensures.taken c.make_call.new.held
    c.args.number c.args.event c.in-Ok.reply c.finish.new.seat.me
    rests.no_ticket rests.no_turn c.requires.number c.in-Ok.ensures.calls c.in-Ok.ensures.steps c.finish.ensures.end
