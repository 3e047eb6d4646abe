-- A node has no fault but of its values.
use Rattle.std.proofs.Common.{ℕ, List, [], Ok, Err, refl}
use Rattle.script_tree.specs.Datum.{Datum}
use Rattle.script_tree.specs.Requests.{Request}
use Rattle.script_tree.specs.declared.syntax.builtin.Builtin.{Builtin}
use Rattle.script_meaning.specs.BuiltinCalls.{Call, plain, of_request, operation, built_in}
use Rattle.script_meaning.specs.Kinds.{bool_in, list_in}
use Rattle.script_meaning.specs.Operands.{OpAnswer, first, second, status_in}
use Rattle.script_meaning.specs.Operators.{Answer, printed}
use Rattle.script_meaning.specs.ValueFaults.{FailsByValues}
use Rattle.script_meaning.proofs.ValueFaults.{in_turn, AreAlike, calls_alike, of_bool, of_list_in, of_printed, of_status_in, of_listed, of_unary, of_binary, of_index, of_transaction}
use Rattle.script_values.specs.CallsMade.{value_made, operation_made, made}
use Rattle.script_code.specs.CodeRun.{all_filled}
use Rattle.script_nodes.specs.ValueFaults.{NodesFailByValues}
use Rattle.script_nodes.specs.declared.primitive.Primitive.TheVariants as node

a_value : (a : Answer) → FailsByValues a → FailsByValues (value_made a)
a_value (Ok d) h = tt
a_value (Err f) h = h

an_operation : (a : OpAnswer) → FailsByValues a → FailsByValues (operation_made a)
an_operation (Ok op) h = tt
an_operation (Err f) h = h

a_call : (c : Call) → AreAlike c c → FailsByValues (made c)
a_call (plain a) h = a_value a h.0
a_call (of_request a) h = a_value a h.0
a_call (operation a) h = an_operation a h.0

of_call : (q : Request) (store : List ℕ) (f : Builtin) (ds : List Datum) → FailsByValues (made (built_in q store f ds))
of_call q store f ds = a_call (built_in q store f ds) (calls_alike q q store f ds ds)

pub nodes_fail_by_values : NodesFailByValues
nodes_fail_by_values q (node.Literal value) ds = tt
nodes_fail_by_values q node.Pass ds = tt
nodes_fail_by_values q (node.Unary op) ds = a_value _ (of_unary op (first ds))
nodes_fail_by_values q (node.Binary op) ds = a_value _ (of_binary op (first ds) (second ds))
nodes_fail_by_values q node.Index ds = a_value _ (of_index (first ds) (second ds))
nodes_fail_by_values q node.List ds = a_value _ (of_listed ds)
nodes_fail_by_values q (node.Builtin f) ds = of_call q [] f ds
nodes_fail_by_values q (node.OnStore f store) ds = of_call q store.now f ds
nodes_fail_by_values q (node.Transact shapes) ds = an_operation _ (of_transaction (all_filled shapes.now ds))
nodes_fail_by_values q node.Decide ds = a_value _ (in_turn (bool_in (first ds)) _ (of_bool (first ds)) (λ x. tt))
nodes_fail_by_values q node.Status ds = a_value _ (in_turn (status_in (first ds)) _ (of_status_in (first ds)) (λ n. tt))
nodes_fail_by_values q node.Echo ds = a_value _ (in_turn (printed (first ds)) _ (of_printed (first ds)) (λ bytes. tt))
nodes_fail_by_values q node.Call ds = tt
nodes_fail_by_values q node.Unknown ds = refl
nodes_fail_by_values q (node.Member n) ds = a_value _ (in_turn (list_in (first ds)) _ (of_list_in (first ds)) (λ xs. tt))
