use Rattle.std.proofs.Common.{rules}
use Rattle.script_tree.specs.Datum.{members-data_of}
use Rattle.script_values.proofs.builtins.length_of.Goals as goal

pub returns-in-List : goal.returns-in-List
returns-in-List c = rw (← c.value.view_is, c.in-List.is, members-data_of c.in-List.values) (search rules)
