use Rattle.wire.specs.Spellings.{IsFieldAt}
use Rattle.trace_format.specs.Events.{parameters_field}
use Rattle.trace_format.proofs.request.read_parameters.Given as goal

abbrev pub invariant-loop : goal.invariant-loop
invariant-loop l = IsFieldAt (parameters_field l.counter) l.bytes l.at l.parameters.items l.place
