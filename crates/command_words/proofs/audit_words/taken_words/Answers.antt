use Rattle.std.proofs.Common.{◌≡◌, ◌∙◌, map, option_map, string_bytes, refl, ap}
use Rattle.std.proofs.lemmas.Result.{IfOk-weaker}
use Rattle.clap.specs.Faults.{is_simple_and_free}
use Rattle.clap.specs.Matches.{first_value, found_of}
use Rattle.command_words.specs.NamesView.{audit_words_of}
use Rattle.command_words.specs.AuditWords.{audit_app, taken_words, words_in}
use Rattle.command_words.proofs.Taken.{takes_found, takes_words, refuses_words}
use Rattle.command_words.proofs.audit_words.taken_words.Goals as goal

pub returns-in-Ok : goal.returns-in-Ok
returns-in-Ok c =
    let is = c.in_ok-audit_command.ensures in
    let value = first_value (found_of c.in-Ok.matches) in
    let words = map string_bytes c.args.words.now in
    let taken : words_in value ≡ taken_words words
    = takes_words audit_app words_in refl _ c.args.words.now c.in-Ok.matches is
    (c.in-Ok.ensures.kinds (ap is_simple_and_free is ∙ refl)) c.in-Ok.ensures.matches in
    takes_found (option_map audit_words_of) c.found_words.result (words_in value) (taken_words words) taken c.found_words.ensures

pub returns-in-Err : goal.returns-in-Err
returns-in-Err c =
    let is = c.in_ok-audit_command.ensures in
    let kinds = c.in-Err.ensures.kinds (ap is_simple_and_free is ∙ refl) in
    IfOk-weaker c.refused.result _ _ (λ found h.
    ap (option_map audit_words_of) h.0 ∙ refuses_words audit_app words_in _ c.args.words.now c.in-Err.error is kinds h.1) c.refused.ensures
