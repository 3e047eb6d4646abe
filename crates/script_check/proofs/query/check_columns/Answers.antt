use Rattle.std.proofs.Common.{refl, ◌∙◌}
use Rattle.std.specs.Option.{option_copied}
use Rattle.script_check.specs.Validity.{column_faults, columns_faults}
use Rattle.script_check.proofs.Lists.{next_of_loop, end_of_loop}
use Rattle.script_check.proofs.query.check_columns.Goals as goal

pub loop-name-preserved : goal.loop-name-preserved
loop-name-preserved c =
    let table = option_copied c.args.table in
    let names = c.args.names.now in
    record {
      faults = next_of_loop (columns_faults table) (column_faults table) (λ x xs. refl) names c.loop-name.name-index c.name-item.result c.loop-name.found.least c.check_column.new.found.least c.loop-name-test.true c.name-item.is c.check_column.ensures ∙ c.loop-name.invariant.faults;
    }

pub returns : goal.returns
returns c = end_of_loop (columns_faults (option_copied c.args.table)) refl c.args.names.now c.loop-name.name-index c.args.found.now.least c.loop-name.found.least c.loop-name-test.false c.loop-name.invariant.faults
