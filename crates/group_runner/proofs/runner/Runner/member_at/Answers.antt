use Rattle.std.proofs.Common.{◌≡◌, ◌∙◌, Some, ap, sym, subst}
use Rattle.period.specs.Traces.{request_of}
use Rattle.trace_index.specs.Places.{request_place, IsRequestPlace}
use Rattle.trace_index.proofs.PlaceFacts.{request_place-within}
use Rattle.group_runner.proofs.runner.Runner.member_at.Goals as goal

pub request-requires : goal.request-requires
request-requires c =
    let es = c.args.self.now.evidence.now.trace in
    subst (λ xs. IsRequestPlace xs c.args.place) (sym c.trace.ensures) (record { rid = c.args.rid; stands = c.requires; within = request_place-within c.args.rid es c.args.place c.requires })

pub left_by-member-requires-clause-place : goal.left_by-member-requires-clause-place
left_by-member-requires-clause-place c =
    record { rid = c.args.rid; stands = c.requires; within = request_place-within c.args.rid c.args.self.now.evidence.now.trace c.args.place c.requires }

pub returns : goal.returns
returns c = λ program of.
    let t = c.args.self.now.evidence.now in
    let r = c.args.rid in
    let request = c.in_ok-request.request in
    let asked : request_of t.trace r ≡ Some request =
    ap (λ es. request_of es r) (sym c.trace.ensures) ∙ c.in_ok-request.ensures r (ap (λ es. request_place es r) c.trace.ensures ∙ c.requires) in
    c.left_by-member.ensures program r request c.requires asked
    (c.page_number-page.ensures program request of (sym c.path.ensures)) (c.in_ok-run.ensures.run program of)
