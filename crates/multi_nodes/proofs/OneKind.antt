-- A node has values alone, or operations alone, whatever its operands are.
use Rattle.std.proofs.Common.{◌≡◌, List, [], Ok, Err}
use Rattle.script_tree.specs.Datum.{Datum}
use Rattle.script_tree.specs.Requests.{Request}
use Rattle.script_tree.specs.declared.operation.Op.{Op}
use Rattle.script_meaning.specs.BuiltinCalls.{Call, plain, of_request, operation, built_in}
use Rattle.script_meaning.specs.Operands.{OpAnswer}
use Rattle.script_meaning.specs.Operators.{Answer}
use Rattle.script_meaning.proofs.ValueFaults.{AreAlike, calls_alike}
use Rattle.script_values.specs.CallsMade.{value_made, operation_made, made}
use Rattle.script_values.specs.declared.builtins.Called.TheVariants.{Value, Operation}
use Rattle.script_nodes.specs.Evaluated.{evaluated}
use Rattle.script_nodes.specs.declared.primitive.Primitive.{Primitive}
use Rattle.script_nodes.specs.declared.primitive.Primitive.TheVariants as node

no_operation : (a : Answer) (op : Op) → value_made a ≡ Ok (Operation op) → ⊥
no_operation (Ok d) op h = cc
no_operation (Err f) op h = cc

no_value : (a : OpAnswer) (d : Datum) → operation_made a ≡ Ok (Value d) → ⊥
no_value (Ok op) d h = cc
no_value (Err f) d h = cc

call_kind : (c d : Call) (x : Datum) (op : Op) → AreAlike c d → made c ≡ Ok (Value x) → made d ≡ Ok (Operation op) → ⊥
call_kind (plain a) (plain b) x op alike h k = no_operation b op k
call_kind (plain a) (of_request b) x op alike h k = absurd alike
call_kind (plain a) (operation b) x op alike h k = absurd alike
call_kind (of_request a) (plain b) x op alike h k = absurd alike
call_kind (of_request a) (of_request b) x op alike h k = no_operation b op k
call_kind (of_request a) (operation b) x op alike h k = absurd alike
call_kind (operation a) d x op alike h k = no_value a x h

pub one_kind : (q r : Request) (p : Primitive) (ds es : List Datum) (d : Datum) (op : Op) → evaluated q p ds ≡ Ok (Value d) → evaluated r p es ≡ Ok (Operation op) → ⊥
one_kind q r (node.Literal value) ds es d op h k = cc
one_kind q r node.Pass ds es d op h k = cc
one_kind q r (node.Unary sign) ds es d op h k = no_operation _ op k
one_kind q r (node.Binary sign) ds es d op h k = no_operation _ op k
one_kind q r node.Index ds es d op h k = no_operation _ op k
one_kind q r node.List ds es d op h k = no_operation _ op k
one_kind q r (node.Builtin b) ds es d op h k =
    call_kind (built_in q [] b ds) (built_in r [] b es) d op (calls_alike q r [] b ds es) h k
one_kind q r (node.OnStore b store) ds es d op h k =
    call_kind (built_in q store.now b ds) (built_in r store.now b es) d op (calls_alike q r store.now b ds es) h k
one_kind q r (node.Transact shapes) ds es d op h k = no_value _ d h
one_kind q r node.Decide ds es d op h k = no_operation _ op k
one_kind q r node.Status ds es d op h k = no_operation _ op k
one_kind q r node.Echo ds es d op h k = no_operation _ op k
one_kind q r node.Call ds es d op h k = cc
one_kind q r node.Unknown ds es d op h k = cc
one_kind q r (node.Member passed) ds es d op h k = no_operation _ op k
