-- What `clap` reads behind the first word, and what is said of what it found.
use Rattle.std.specs.Prelude.{ℕ, List, true, codes, Option, Some, None, if◌then◌else◌}
use Rattle.clap.specs.Faults.{fault_of}
use Rattle.clap.specs.Matches.{first_value}
use Rattle.clap.specs.Walk.{Rule, first_of, is_empty}
use Rattle.clap.specs.declared.parser.matches.Found.{Found}
use Rattle.clap.specs.Simple.{App, matches_of, new_app, new_rule, on_top, with_rule}
use Rattle.basis.specs.Options.{◌>>=◌}
use Rattle.command_words.specs.Words.{ReplayNames}
use Rattle.command_words.specs.declared.arguments.Argument.{Argument}
use Rattle.command_words.specs.declared.arguments.Argument.TheVariants.{Optional, Required}

-- a name that has to be there
abbrev pub name_rule : List ℕ → Rule
name_rule id = record (new_rule id) { required = true }

-- an option that takes a value
abbrev pub option_rule : List ℕ → Rule
option_rule id = record (new_rule id) { long = Some id }

-- a simple command that is its words alone, of which none is asked for yet
abbrev pub bare_app : List ℕ → App
bare_app name = on_top (λ s. record s { no_binary_name = true }) (new_app name)

-- how an argument is read
abbrev pub argument_rule : Argument → Rule
argument_rule (Required name) = name_rule name.now
argument_rule (Optional name) = option_rule name.now

-- a simple command with one argument more
abbrev pub with_argument : App → Argument → App
with_argument app argument = with_rule app (argument_rule argument)

-- what is said of the values of names and options, where the simple command takes the words
unfoldable pub taken : {X : Type 0} → App → ((List ℕ → Option (List ℕ)) → Option X) → List (List ℕ) → Option X
taken app say words = if is_empty (fault_of app words) then say (λ id. first_of id (matches_of app words)) else None

-- ---- `replay`

-- the simple command `replay`
abbrev pub replay_app : App
replay_app = with_rule (with_rule (with_rule (with_rule (on_top (λ s. record s { no_binary_name = true }) (new_app (codes "replay")))
    (name_rule (codes "program"))) (name_rule (codes "state"))) (name_rule (codes "trace"))) (name_rule (codes "schedule"))

-- the names that were found
abbrev pub found_names : Found → Option ReplayNames
found_names found = do
  program ← first_value found (codes "program")
  state ← first_value found (codes "state")
  trace ← first_value found (codes "trace")
  schedule ← first_value found (codes "schedule")
  Some (record { program = program; state = state; trace = trace; schedule = schedule })
