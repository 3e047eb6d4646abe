use Rattle.std.proofs.Common.{◌∙◌, ap, ap₂}
use Rattle.clap.specs.Matches.{first_value, found_of}
use Rattle.command_words.specs.RecordWords.{number_or, words_of}
use Rattle.command_words.proofs.record_words.found_words.Goals as goal

pub returns : goal.returns
returns c = c.sound_words.ensures ∙ ap₂ (words_of (first_value (found_of c.args.matches.now)))
    (c.in_ok-workers.ensures ∙ ap (number_or 1) c.get_str.ensures) (c.in_ok-seed.ensures ∙ ap (number_or 0) c.get_str-2.ensures)
