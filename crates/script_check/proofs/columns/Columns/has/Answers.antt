use Rattle.std.proofs.Common.{◌∙◌, ap, []}
use Rattle.script_check.specs.Validity.{has, texts}
use Rattle.script_check.proofs.Names.{with_names_has}
use Rattle.script_check.proofs.columns.Columns.has.Goals as goal

pub returns : goal.returns
returns c =
    c.knows.ensures
    ∙ ap (λ known. has known c.args.name.now) c.self.invariant
    ∙ with_names_has [] c.self.inside.names.now c.args.name.now
    ∙ ap (λ names. has (texts names) c.args.name.now) c.self.view_is
