use Rattle.std.proofs.Common.{arith}
use Rattle.history.specs.TraceOf.{trace_of}
use Rattle.whole_history.proofs.Acceptance.{trace_accepted}
use Rattle.whole_history.proofs.TraceDrafts.{read_as, spells}
use Rattle.whole_history.proofs.traces.trace_of.Goals as goal

pub unreachable-requires : goal.unreachable-requires
unreachable-requires c =
    let history = c.args.history.now in
    let draft = c.in_ok-draft.draft in
    let fault = rw c.in-Err-Other.field-0-is at c.in-Err-Other.ensures in
    c.reading_is_exact.ensures.no_reading_at_fault draft.bytes.items c.in-Err-Other.field-0-0.at (trace_of history) fault
    (spells history draft c.requires (omega (arith, draft.bytes.ok.0)) c.in_ok-draft.ensures)

pub returns-in-Ok-clause-trace : goal.returns-in-Ok-clause-trace
returns-in-Ok-clause-trace c =
    let draft = c.in_ok-draft.draft in
    read_as c.reading_is_exact.ensures c.args.history.now draft c.in-Ok.trace c.requires (omega (arith, draft.bytes.ok.0)) c.in_ok-draft.ensures c.in-Ok.ensures

pub returns-in-Ok-clause-accepted : goal.returns-in-Ok-clause-accepted
returns-in-Ok-clause-accepted c =
    let draft = c.in_ok-draft.draft in
    trace_accepted c.recorded_is_accepted.ensures c.args.history.now c.in-Ok.trace
    (read_as c.reading_is_exact.ensures c.args.history.now draft c.in-Ok.trace c.requires
    (omega (arith, draft.bytes.ok.0)) c.in_ok-draft.ensures c.in-Ok.ensures)
