use Rattle.std.proofs.Common.{◌∙◌, ap, sym}
use Rattle.group_runner.specs.Told.{fault_of, steps_of}
use Rattle.group_runner.proofs.Grouped.{group_told}
use Rattle.group_runner.proofs.groups.run_one_by_one.Goals as goal

pub returns-in-Some-2-clause-told : goal.returns-in-Some-2-clause-told
returns-in-Some-2-clause-told g c = λ program of.
    let t = c.args.evidence.now in
    let run = c.in_ok-run.ensures program of in
    ap (fault_of program t c.args.number) c.in-Some.ensures.cases.0
    ∙ group_told program t c.args.number c.in-Some.first_rid.now c.in-Some.others.now c.in_ok-run.run'.findings
    (run.found c.args.number) ∙ sym c.in_ok-reason.ensures ∙ c.in-Some-2.is

pub returns-in_ok-add-in-None-clause-told : goal.returns-in_ok-add-in-None-clause-told
returns-in_ok-add-in-None-clause-told g c = λ program of.
    let t = c.args.evidence.now in
    let run = c.in_ok-run.ensures program of in (
      ap (fault_of program t c.args.number) c.in-Some.ensures.cases.0
          ∙ group_told program t c.args.number c.in-Some.first_rid.now c.in-Some.others.now c.in_ok-run.run'.findings
          (run.found c.args.number) ∙ sym c.in_ok-reason.ensures ∙ c.in-None.is,
      run.steps' ∙ sym (ap (steps_of program t) c.in-Some.ensures.cases.0),
    )
