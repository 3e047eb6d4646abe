use Rattle.std.proofs.Common.{◌≡◌, ◌++◌, length, map, Ok}
use Rattle.std.specs.Vec.Iter.{into_iter_items}
use Rattle.script_meaning.specs.Operands.{all_checked}
use Rattle.script_meaning.specs.Results.{◌>>=◌}
use Rattle.script_values.specs.Queries.{unchecked_of}
use Rattle.script_values.proofs.transactions.all_checked.Given as goal

abbrev pub invariant-loop-statement : goal.invariant-loop-statement
invariant-loop-statement l = record {
  told : (all_checked (map unchecked_of (into_iter_items l.left)) >>= λ ss. Ok (l.all.items ++ ss)) ≡ all_checked (map unchecked_of l.fn.statements.items);
}

abbrev pub decreases-loop-statement : goal.decreases-loop-statement
decreases-loop-statement l = length (into_iter_items l.left)
