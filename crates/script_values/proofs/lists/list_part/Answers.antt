use Rattle.std.proofs.Common.{rules}
use Rattle.script_tree.specs.Datum.{members-data_of}
use Rattle.script_values.proofs.lists.list_part.Goals as goal

pub returns-in_err-part : goal.returns-in_err-part
returns-in_err-part c = rw (members-data_of c.args.values.now) (search rules)

pub returns : goal.returns
returns c = rw (members-data_of c.args.values.now) (search rules)
