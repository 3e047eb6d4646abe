-- The law that words come to an outcome.
use Rattle.std.specs.Prelude.{ℕ, List, Option}
use Rattle.outside.specs.Files.{Files}
use Rattle.command_inputs.specs.SomeWay.{ThereIs}
use Rattle.command_words.specs.Commands.{Command, a_check, a_replay, a_recording, an_audit, command, usage}
use Rattle.commands.specs.Outcome.{IsOutcome}

-- The command is no recording.
abbrev pub RecordsNothing : Command → Type 0
RecordsNothing (a_check name) = Unit {0}
RecordsNothing (a_replay names) = Unit {0}
RecordsNothing (a_recording w) = ⊥
RecordsNothing (an_audit w) = Unit {0}
RecordsNothing usage = Unit {0}

-- Words that ask for no recording come to an outcome, over all files.
abbrev pub IsSomeOutcome : Type 0
IsSomeOutcome =
    (words : List (List ℕ)) (reading : Option ℕ) (files : Files) → RecordsNothing (command words)
    → ThereIs (IsOutcome words reading files)
