use Rattle.std.proofs.Common.{rules, ◌≡◌, ◌∙◌, ap, sym}
use Rattle.std.specs.Fmt.{decimal}
use Rattle.command_words.proofs.RecordWordsRead.{number_here, no_number, not_same}
use Rattle.command_words.proofs.record_words.number_of.Goals as goal
use Rattle.command_words.proofs.record_words.number_of.Goals.{then-eq, else-eq}

pub returns-after-eq : goal.returns-after-eq
returns-after-eq c = elim c.if-eq.branch [
  | then-eq w ↦ w.result-is ∙ number_here c.args.text.now c.in-Ok.number (search rules) (search rules)
  | else-eq w ↦ w.result-is ∙ no_number c.args.text.now c.parse.result c.parse.ensures.value.0 (λ n is form.
      let same : n ≡ c.in-Ok.number = let e = sym is ∙ c.in-Ok.is in cc in
      let written : c.as_str.result.now ≡ decimal c.in-Ok.number = search rules in
      not_same c.as_str.result.now c.args.text.now w.if-eq.ensures (written ∙ ap decimal (sym same) ∙ form))
]

pub returns-in-Err : goal.returns-in-Err
returns-in-Err c = no_number c.args.text.now c.parse.result c.parse.ensures.value.0 (λ n is form. let e = sym c.in-Err.is ∙ is in cc)
