use Rattle.std.proofs.Common.{sym, ap, ◌∙◌}
use Rattle.script_tree.specs.Declarations.{function_in}
use Rattle.script_check.specs.FoundByName.{function_of}
use Rattle.page_walker.proofs.Within.{is_within}
use Rattle.page_walker.proofs.declared.callee_named.Goals as goal

pub returns-in-Some-clause-within : goal.returns-in-Some-clause-within
returns-in-Some-clause-within c =
    is_within c.args.index.now.declarations c.args.name.now (function_of c.in-Some.function)
    (ap (function_in c.args.index.now) (sym c.as_bytes.ensures) ∙ sym c.in-Some.ensures)
