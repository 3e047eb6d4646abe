use Rattle.std.proofs.Common.{◌≡◌, ◌++◌, map}
use Rattle.audit_meaning.specs.Lists.{numbers}
use Rattle.audit_meaning.specs.Nodes.{node_at}
use Rattle.audit_order.proofs.numbering.push_nodes.Given as goal

abbrev pub invariant-loop-number : goal.invariant-loop-number
invariant-loop-number l = l.names.items ≡ l.fn.names.items ++ map (node_at l.count l.rid) (numbers 0 l.number)
