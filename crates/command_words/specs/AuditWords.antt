-- What the words of a command line ask `audit` to do: five names and one option, read as the command-line library reads a simple command.
use Rattle.std.specs.Prelude.{ℕ, true, if◌then◌else◌, List, [], ◌∷◌, fold, codes, Option, Some, None}
use Rattle.basis.specs.Options.{◌>>=◌}
use Rattle.clap.specs.Simple.{App, new_app, on_top, with_rule}
use Rattle.clap.specs.Walk.{Rule}
use Rattle.command_words.specs.RecordWords.{are_workers, number_or}
use Rattle.command_words.specs.WordsApp.{name_rule, option_rule, taken}

-- the names of the files, of which the last is written, and how many workers there are
pub record AuditWords : Type 0 where
  pub program : List ℕ
  pub state : List ℕ
  pub trace : List ℕ
  pub report : List ℕ
  pub schedule : List ℕ
  pub workers : ℕ

-- the five names and the option of `audit`
abbrev pub audit_rules : List Rule
audit_rules =
    name_rule (codes "program") ∷ name_rule (codes "state") ∷ name_rule (codes "trace")
    ∷ name_rule (codes "report") ∷ name_rule (codes "schedule") ∷ option_rule (codes "workers") ∷ []

-- the simple command `audit`
abbrev pub audit_app : App
audit_app =
    fold with_rule (on_top (λ s. record s { no_binary_name = true }) (new_app (codes "audit"))) audit_rules

-- the words, where there may be so many workers
abbrev pub if_sound : AuditWords → Option AuditWords
if_sound w = if are_workers w.workers then Some w else None

-- what the words say whose names have these values, with this number of workers
abbrev pub words_of : (List ℕ → Option (List ℕ)) → Option ℕ → Option AuditWords
words_of value workers = do
  program ← value (codes "program")
  state ← value (codes "state")
  trace ← value (codes "trace")
  report ← value (codes "report")
  schedule ← value (codes "schedule")
  count ← workers
  if_sound (record {
    program = program;
    state = state;
    trace = trace;
    report = report;
    schedule = schedule;
    workers = count;
  })

-- what was found of the words
abbrev pub words_in : (List ℕ → Option (List ℕ)) → Option AuditWords
words_in value = words_of value (number_or 1 (value (codes "workers")))

-- what the words behind `audit` say, where the simple command takes them
abbrev pub taken_words : List (List ℕ) → Option AuditWords
taken_words words = taken audit_app words_in words
