use Rattle.std.proofs.Common.{◌∙◌, ap, option_map}
use Rattle.std.proofs.lemmas.Result.{IfOk-weaker}
use Rattle.command_words.specs.NamesView.{names_of}
use Rattle.command_words.proofs.WordsRead.{takes_names, refuses_others, is_simple_app}
use Rattle.command_words.proofs.replay_names.four_names.Goals as goal

pub returns-in-Ok : goal.returns-in-Ok
returns-in-Ok c =
    let is = c.in_ok-replay_command.ensures in
    c.found_names.ensures ∙ takes_names _ c.args.words.now c.in-Ok.matches is (c.in-Ok.ensures.kinds (is_simple_app _ is)) c.in-Ok.ensures.matches

pub returns-in-Err : goal.returns-in-Err
returns-in-Err c =
    let is = c.in_ok-replay_command.ensures in
    let kinds = c.in-Err.ensures.kinds (is_simple_app _ is) in
    IfOk-weaker c.refused.result _ _ (λ found h.
    ap (option_map names_of) h.0 ∙ refuses_others _ c.args.words.now c.in-Err.error is kinds h.1) c.refused.ensures
