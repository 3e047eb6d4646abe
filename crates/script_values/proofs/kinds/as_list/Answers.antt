use Rattle.std.proofs.Common.{ap, Ok}
use Rattle.script_tree.specs.Datum.{members-data_of}
use Rattle.script_values.proofs.kinds.as_list.Goals as goal

pub returns-in-List : goal.returns-in-List
returns-in-List c = rw (← c.value.view_is, c.in-List.is) (ap Ok (members-data_of c.in-List.values))
