use Rattle.std.proofs.Common.{◌∙◌, ap}
use Rattle.script_tokens.proofs.WordTests.{first_of, word_of_beginning, no_word}
use Rattle.script_tokens.proofs.word.Word.spelled.Goals as goal

pub returns-in-empty : goal.returns-in-empty
returns-in-empty c = no_word c.args.bytes.now c.in-empty.len_below

pub returns-in-len1-up : goal.returns-in-len1-up
returns-in-len1-up c =
    let bytes = c.args.bytes.now in
    c.first_spelled.ensures ∙ ap (first_of bytes) c.beginning_with.ensures ∙ word_of_beginning bytes
