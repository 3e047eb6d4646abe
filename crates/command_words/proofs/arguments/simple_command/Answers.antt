use Rattle.std.proofs.Common.{◌∙◌, [], sym, ap₂}
use Rattle.std.proofs.lemmas.List.Sums.{fold_more}
use Rattle.clap.specs.Simple.{app_of, with_rule}
use Rattle.command_words.specs.WordsApp.{with_argument}
use Rattle.command_words.specs.declared.arguments.Argument.{Argument}
use Rattle.command_words.specs.declared.arguments.Argument.TheVariants.{Required}
use Rattle.command_words.proofs.arguments.simple_command.Goals as goal

pub loop-argument-preserved : goal.loop-argument-preserved
loop-argument-preserved c =
    let at = c.loop-argument in
    let d : Argument = Required (record { ref_ptr = (0, 0); now = [] }) in
    c.in_ok-command.ensures.shape c.argument_of.ensures.local
    ∙ ap₂ with_rule at.invariant c.argument_of.ensures.rule
    ∙ sym (fold_more with_argument (app_of c.no_binary_name-command.result) c.args.arguments.now at.argument-index d c.loop-argument-test.true)
