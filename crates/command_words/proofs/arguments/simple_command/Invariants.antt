use Rattle.std.specs.Prelude.{◌≡◌, fold, take}
use Rattle.clap.specs.Simple.{app_of}
use Rattle.command_words.specs.WordsApp.{with_argument}
use Rattle.command_words.proofs.arguments.simple_command.Given as goal

abbrev pub invariant-loop-argument : goal.invariant-loop-argument
invariant-loop-argument l = app_of l.command ≡ fold with_argument (app_of l.initial.command) (take l.argument-index l.arguments)
