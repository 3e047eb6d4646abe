use Rattle.std.proofs.Common.{arith}
use Rattle.std.proofs.lemmas.Grind.{common_steps}
use Rattle.std.proofs.Common.{◌∙◌, option_map, ap, sym}
use Rattle.basis.specs.Lists.{nth}
use Rattle.script_tree.specs.Declarations.{table_from}
use Rattle.script_check.specs.FoundByName.{table_of}
use Rattle.state_file.proofs.Tables.{width_there}
use Rattle.state_file.proofs.stored.put_tables.Goals as goal

pub put_rows-requires-clause-there : goal.put_rows-requires-clause-there
put_rows-requires-clause-there c =
    let t = c.in-Some-table.table in
    ap (λ widths. nth widths t.number) (c.loop-name.invariant.others.widths ∙ c.requires.widths)
    ∙ width_there c.in-Some.name c.args.index.now.declarations t
    (ap (option_map table_of) (sym c.in-Some-table.is) ∙ c.table.ensures
    ∙ ap (λ name. table_from 0 name c.args.index.now.declarations) c.as_bytes.ensures)

pub returns-clause-put : goal.returns-clause-put
returns-clause-put c = grind (arith, common_steps)
