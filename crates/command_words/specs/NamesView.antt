-- The names that are lent, by their bytes.
use Rattle.std.specs.Prelude.{option_map}
use Rattle.command_words.specs.AuditWords as meant_audit
use Rattle.command_words.specs.Commands as meant_command
use Rattle.command_words.specs.RecordWords as meant_record
use Rattle.command_words.specs.Words as meant
use Rattle.command_words.specs.declared.audit_words.AuditWords.{AuditWords}
use Rattle.command_words.specs.declared.command.Command.{Command}
use Rattle.command_words.specs.declared.command.Command.TheVariants.{Audit, Check, Record, Replay, Usage}
use Rattle.command_words.specs.declared.record_words.RecordWords.{RecordWords}
use Rattle.command_words.specs.declared.replay_names.ReplayNames.{ReplayNames}

-- the names of replay's inputs, by their bytes
abbrev pub names_of : ReplayNames → meant.ReplayNames
names_of n = record { program = n.program.now; state = n.state.now; trace = n.trace.now; schedule = n.schedule.now }

-- the words of a recording, by their bytes
abbrev pub record_words_of : RecordWords → meant_record.RecordWords
record_words_of w = record {
  program = w.program.now;
  state = w.state.now;
  requests = w.requests.now;
  trace = w.trace.now;
  report = w.report.now;
  turns = option_map (λ name. name.now) w.turns;
  workers = w.workers;
  seed = w.seed;
}

-- the words of an audit, by their bytes
abbrev pub audit_words_of : AuditWords → meant_audit.AuditWords
audit_words_of w = record {
  program = w.program.now;
  state = w.state.now;
  trace = w.trace.now;
  report = w.report.now;
  schedule = w.schedule.now;
  workers = w.workers;
}

-- the command, with the bytes of its words
abbrev pub command_of : Command → meant_command.Command
command_of (Check name) = meant_command.a_check name.now
command_of (Replay names) = meant_command.a_replay (names_of names)
command_of (Record words) = meant_command.a_recording (record_words_of words)
command_of (Audit words) = meant_command.an_audit (audit_words_of words)
command_of Usage = meant_command.usage
