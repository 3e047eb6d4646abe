use Rattle.std.proofs.Common.{◌∙◌, ap, sym, map, take}
use Rattle.std.proofs.lemmas.List.{take-map}
use Rattle.script_code.specs.ScopeView.{text_in}
use Rattle.script_code.proofs.scope.Scope.leave.Goals as goal

pub returns : goal.returns
returns c =
    ap (map text_in) c.truncate.ensures.items
    ∙ sym (take-map text_in c.args.kept c.self.inside.names.items)
    ∙ ap (take c.args.kept) c.self.view_is
