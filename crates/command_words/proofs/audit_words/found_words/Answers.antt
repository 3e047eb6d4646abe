use Rattle.std.proofs.Common.{◌∙◌, ap}
use Rattle.clap.specs.Matches.{first_value, found_of}
use Rattle.command_words.specs.AuditWords.{words_of}
use Rattle.command_words.specs.RecordWords.{number_or}
use Rattle.command_words.proofs.audit_words.found_words.Goals as goal

pub returns : goal.returns
returns c = c.sound_words.ensures ∙ ap (words_of (first_value (found_of c.args.matches.now))) (c.in_ok-workers.ensures ∙ ap (number_or 1) c.get_str.ensures)
