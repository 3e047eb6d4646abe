use Rattle.std.proofs.Common.{◌≡◌, ◌∙◌, ap, sym}
use Rattle.script_meaning.specs.Conduct.{conduct}
use Rattle.machine.specs.Told.{ending_of}
use Rattle.group_runner.specs.Told.{answer_to}
use Rattle.group_runner.proofs.Runs.{waits_if_answered}
use Rattle.group_runner.proofs.runner.Runner.go_on.Goals as goal

pub answer-requires-in-Ok-Some : goal.answer-requires-in-Ok-Some
answer-requires-in-Ok-Some c =
    waits_if_answered c.args.self.now.evidence.now c.args.rid c.args.number c.in_ok-step.step c.run.new.self c.in-Ok-Some.answer (sym c.in-Ok-Some.field-0-is ∙ c.in-Ok-Some.ensures) c.in_ok-step.ensures.waits

pub returns-in_ok-answer-in-Ok-Some-clause-goes : goal.returns-in_ok-answer-in-Ok-Some-clause-goes
returns-in_ok-answer-in-Ok-Some-clause-goes c = λ program q answers f.
    let tells : ending_of c.in_ok-step.step ≡ (conduct program q answers).ending = c.in_ok-step.ensures.tells program q answers f in (
      c.in-Ok-Some.answer,
      ap (answer_to c.args.self.now.evidence.now c.args.rid c.args.number) (sym tells) ∙ sym c.in-Ok-Some.ensures ∙ c.in-Ok-Some.field-0-is,
      c.in_ok-answer-in-Ok-Some.ensures.follows program q answers (c.in_ok-step.ensures.follows program q answers f),
    )

pub returns-in-Ok-None-clause-goes : goal.returns-in-Ok-None-clause-goes
returns-in-Ok-None-clause-goes c = λ program q answers f.
    let tells : ending_of c.in_ok-step.step ≡ (conduct program q answers).ending = c.in_ok-step.ensures.tells program q answers f in (
      ap (answer_to c.args.self.now.evidence.now c.args.rid c.args.number) (sym tells) ∙ sym c.in-Ok-None.ensures ∙ c.in-Ok-None.field-0-is,
      tells,
      c.in_ok-step.ensures.follows program q answers f,
    )
