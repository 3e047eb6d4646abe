-- What the words of a command line ask `record` to do: five names and three options, read as the command-line library reads a simple command.
use Rattle.std.specs.Prelude.{ℕ, ◌+◌, ◌^◌, Bool, true, ◌&&◌, not, nat_lt, if◌then◌else◌, List, [], ◌∷◌, fold, codes, Option, Some, None}
use Rattle.std.specs.Fmt.{decimal}
use Rattle.std.specs.Str.{bytes_eq}
use Rattle.std.specs.Str.Parse.{digits_value}
use Rattle.claims.specs.declared.workers.TheConstants.{MOST_WORKERS}
use Rattle.basis.specs.Options.{◌>>=◌}
use Rattle.clap.specs.Simple.{App, new_app, on_top, with_rule}
use Rattle.clap.specs.Walk.{Rule}
use Rattle.command_words.specs.WordsApp.{name_rule, option_rule, taken}

-- the names of the files, with that of the turns where there is one, how many workers there are, and the seed
pub record RecordWords : Type 0 where
  pub program : List ℕ
  pub state : List ℕ
  pub requests : List ℕ
  pub trace : List ℕ
  pub report : List ℕ
  pub turns : Option (List ℕ)
  pub workers : ℕ
  pub seed : ℕ

-- ---- numbers

-- the number below 2^64 of which the text is the decimal form
abbrev pub number_of : List ℕ → Option ℕ
number_of text =
    let n = digits_value 10 text in
    if bytes_eq (decimal n) text && nat_lt n (2 ^ 64) then Some n else None

-- the number of an option, and another where it isn't given
abbrev pub number_or : ℕ → Option (List ℕ) → Option ℕ
number_or other None = Some other
number_or other (Some text) = number_of text

-- so many workers there may be
abbrev pub are_workers : ℕ → Bool
are_workers n = nat_lt 0 n && nat_lt n (MOST_WORKERS + 1)

-- ---- words

-- the five names and the three options of `record`
abbrev pub record_rules : List Rule
record_rules =
    name_rule (codes "program") ∷ name_rule (codes "state") ∷ name_rule (codes "requests")
    ∷ name_rule (codes "trace") ∷ name_rule (codes "report")
    ∷ option_rule (codes "workers") ∷ option_rule (codes "turns") ∷ option_rule (codes "seed") ∷ []

-- the simple command `record`
abbrev pub record_app : App
record_app =
    fold with_rule (on_top (λ s. record s { no_binary_name = true }) (new_app (codes "record"))) record_rules

-- The trace and the report have different names, and the workers are 1 to the most.
abbrev pub is_sound : List ℕ → List ℕ → ℕ → Bool
is_sound trace report workers = not (bytes_eq trace report) && are_workers workers

-- the words, where they are sound
abbrev pub if_sound : RecordWords → Option RecordWords
if_sound w = if is_sound w.trace w.report w.workers then Some w else None

-- the numbers of workers and of the seed, where both are given and the words are sound
abbrev pub sound_numbers : List ℕ → List ℕ → Option ℕ → Option ℕ → Option (ℕ × ℕ)
sound_numbers trace report workers seed = do
  count ← workers
  number ← seed
  if is_sound trace report count then Some (count, number) else None

-- what the words say whose names and options have these values, with these numbers
abbrev pub words_of : (List ℕ → Option (List ℕ)) → Option ℕ → Option ℕ → Option RecordWords
words_of value workers seed = do
  program ← value (codes "program")
  state ← value (codes "state")
  requests ← value (codes "requests")
  trace ← value (codes "trace")
  report ← value (codes "report")
  count ← workers
  number ← seed
  if_sound (record {
    program = program;
    state = state;
    requests = requests;
    trace = trace;
    report = report;
    turns = value (codes "turns");
    workers = count;
    seed = number;
  })

-- what was found of the words
abbrev pub words_in : (List ℕ → Option (List ℕ)) → Option RecordWords
words_in value =
    words_of value (number_or 1 (value (codes "workers"))) (number_or 0 (value (codes "seed")))

-- what the words behind `record` say, where the simple command takes them
abbrev pub taken_words : List (List ℕ) → Option RecordWords
taken_words words = taken record_app words_in words
