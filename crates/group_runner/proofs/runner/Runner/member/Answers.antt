use Rattle.std.proofs.Common.{◌∙◌, ap, sym}
use Rattle.period.specs.Traces.{request_of}
use Rattle.trace_index.proofs.PlaceFacts.{request_absent}
use Rattle.group_runner.proofs.runner.Runner.member.Goals as goal

pub returns-in-None : goal.returns-in-None
returns-in-None c = λ program of.
    c.absent.ensures program c.args.self.now.evidence.now c.args.rid
    (ap (λ es. request_of es c.args.rid) (sym c.trace.ensures) ∙ request_absent c.args.rid c.trace.result.now (sym c.place.ensures.place ∙ c.in-None.is))
