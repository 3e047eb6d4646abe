-- Which command the words of a command line ask for.
use Rattle.std.specs.Prelude.{ℕ, if◌then◌else◌, List, [], ◌∷◌, Option, Some, None, codes}
use Rattle.std.specs.Str.{bytes_eq}
use Rattle.command_words.specs.AuditWords as audit
use Rattle.command_words.specs.RecordWords as recording
use Rattle.command_words.specs.Words.{ReplayNames, in_four, in_one, names_in}

-- a command with what its words say, or none, of which the usage is told
pub data Command : Type 0 where
  a_check : (name : List ℕ) → Command
  a_replay : (names : ReplayNames) → Command
  a_recording : (words : recording.RecordWords) → Command
  an_audit : (words : audit.AuditWords) → Command
  usage : Command

-- the command of what was read of its words, where it could be read
abbrev pub if_read : {A : Type 0} → (A → Command) → Option A → Command
if_read which (Some said) = which said
if_read which None = usage

-- the command of this name, by the words behind it
abbrev pub named_command : List ℕ → List (List ℕ) → Command
named_command name words =
    if bytes_eq name (codes "check") then if_read a_check (in_one (names_in words))
    else (if bytes_eq name (codes "replay") then if_read a_replay (in_four (names_in words))
    else (if bytes_eq name (codes "record") then if_read a_recording (recording.taken_words words)
    else (if bytes_eq name (codes "audit") then if_read an_audit (audit.taken_words words)
    else usage)))

-- the command that words ask for: the first is its name
abbrev pub command : List (List ℕ) → Command
command [] = usage
command (name ∷ words) = named_command name words
