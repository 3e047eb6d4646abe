use Rattle.std.proofs.Common.{rules}
use Rattle.script_tree.specs.Datum.{members-data_of}
use Rattle.script_values.proofs.operators.member_at.Goals as goal

pub returns-in_err-at_place : goal.returns-in_err-at_place
returns-in_err-at_place c = rw (members-data_of c.args.values.now) (search rules)

pub returns : goal.returns
returns c = rw (members-data_of c.args.values.now) (search rules)
