use Rattle.std.proofs.Common.{◌++◌, ◌∙◌, ap}
use Rattle.script_check.specs.Least.{lower}
use Rattle.script_check.specs.Passes.{store_pass, table_pass, function_pass, declared_faults}
use Rattle.script_check.proofs.Lists.{then_next}
use Rattle.script_check.proofs.declared.Declared.new.Goals as goal

pub returns-clause-faults : goal.returns-clause-faults
returns-clause-faults c =
    let ds = c.as_slice-declarations.result.now in
    let version = c.tree.inside.version in
    let l = c.args.found.now.least in
    then_next l c.tables.new.found.least c.functions.new.found.least (store_pass ds ++ table_pass ds) (function_pass version ds)
    (then_next l c.stores.new.found.least c.tables.new.found.least (store_pass ds) (table_pass ds) c.in_ok-stores.ensures.faults c.in_ok-tables.ensures.faults)
    c.in_ok-functions.ensures.faults
    ∙ ap (λ xs. lower l (store_pass xs ++ table_pass xs ++ function_pass version xs)) c.as_slice-declarations.ensures
    ∙ ap (λ program. lower l (declared_faults program)) c.tree.view_is
