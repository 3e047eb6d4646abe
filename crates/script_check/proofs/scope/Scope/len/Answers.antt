use Rattle.std.proofs.Common.{[], length, ap, arith}
use Rattle.script_check.proofs.Names.{names_length}
use Rattle.script_check.proofs.scope.Scope.len.Goals as goal

pub returns : goal.returns
returns c = omega (arith, names_length [] c.self.inside.declared.items, ap length c.self.view_is)
