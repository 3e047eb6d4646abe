use Rattle.std.proofs.Common.{ap, sym, option_map, subst, ◌∙◌}
use Rattle.script_code.specs.Translated.{IsCodeOf, at_path, entry_of, pages_of}
use Rattle.machine.proofs.Following.{begins, begins_nowhere}
use Rattle.machine.proofs.machine.Machine.start.Goals as goal

pub returns-in-None-clause-follows : goal.returns-in-None-clause-follows
returns-in-None-clause-follows c program of =
    let m = c.at.result in
    let at = c.at.ensures in
    let none = ap (option_map entry_of) (ap (at_path c.args.code.now.pages) (sym c.path.ensures) ∙ sym c.page.ensures ∙ c.in-None.is) in
    begins_nowhere program c.args.request m 0 (subst (λ code. IsCodeOf program code) (sym at.code) of) at.request at.phase at.run
    (ap (λ code. pages_of code c.args.request.path) at.code ∙ none)

pub returns-in-Some-clause-follows : goal.returns-in-Some-clause-follows
returns-in-Some-clause-follows c program of =
    let m = c.at-in-Some.result in
    let at = c.at-in-Some.ensures in
    let entry = entry_of c.in-Some.page in
    let found = ap (option_map entry_of) (ap (at_path c.args.code.now.pages) (sym c.path.ensures) ∙ sym c.page.ensures ∙ c.in-Some.is) in
    begins program c.args.request m entry (subst (λ code. IsCodeOf program code) (sym at.code) of) at.request at.page at.phase at.run
    (ap (λ code. pages_of code c.args.request.path) at.code ∙ found)
