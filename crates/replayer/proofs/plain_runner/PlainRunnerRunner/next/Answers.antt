use Rattle.std.proofs.Common.{◌≢◌, ◌∙◌, sym, ap, subst}
use Rattle.script_meaning.specs.Conduct.{Ending, Undefined}
use Rattle.script_meaning.specs.Evaluate.{Setting}
use Rattle.script_meaning.specs.Replay.{ending_of}
use Rattle.page_walker.specs.WalkerSteps.{ending_told, ending_after}
use Rattle.replayer.proofs.plain_runner.PlainRunnerRunner.next.Goals as goal

pub returns-in-Wants : goal.returns-in-Wants
unfolding ending_of
returns-in-Wants c =
    let ending : Setting → Ending = λ w. ending_after w c.args.answers.now in
    let same = ap ending c.new-walker.ensures in
    let told = c.in_ok-op.ensures (subst (λ e. e ≢ Undefined) (sym same) c.requires) in
    sym (sym (ap ending_told c.in-Wants.is) ∙ told ∙ same)

pub returns : goal.returns
unfolding ending_of
returns c =
    let ending : Setting → Ending = λ w. ending_after w c.args.answers.now in
    let same = ap ending c.new-walker.ensures in
    let told = c.in_ok-op.ensures (subst (λ e. e ≢ Undefined) (sym same) c.requires) in
    (c.in-Ends.field-1, sym (sym (ap ending_told c.in-Ends.is) ∙ told ∙ same))
