-- What the members of a group are charged for at a step.
use Rattle.std.specs.Prelude.{ℕ, zero, suc, Bool, true, false, ◌&&◌, ◌||◌, not, if◌then◌else◌, List, [], ◌∷◌, length}
use Rattle.std.specs.List.{list_all}
use Rattle.script_tree.specs.Datum.{Datum}
use Rattle.script_tree.specs.Requests.{Request}
use Rattle.script_tree.specs.declared.syntax.builtin.Builtin as b
use Rattle.script_tree.specs.declared.syntax.builtin.Builtin.TheVariants.{Len, Str, Escape, Num, Slice, Append, Kind, Param, Method, Path, Body, Read, Write, Get, Put, Remove, Clock, Random}
use Rattle.script_meaning.specs.GroupCost.{step_cost}
use Rattle.script_meaning.specs.Run.{Cost, taking, taking_request}
use Rattle.script_nodes.specs.declared.primitive.Primitive.{Primitive}
use Rattle.script_nodes.specs.declared.primitive.Primitive.TheVariants as node
use Rattle.multivalue.specs.Many.{Many}
use Rattle.multi_nodes.specs.Members.{members_at, request_at, is_shared, alike_in}

-- a built-in function that looks at the request
abbrev pub asks_request : b.Builtin → Bool
asks_request Len = false
asks_request Str = false
asks_request Escape = false
asks_request Num = false
asks_request Slice = false
asks_request Append = false
asks_request Kind = false
asks_request Param = true
asks_request Method = true
asks_request Path = true
asks_request Body = true
asks_request Read = false
asks_request Write = false
asks_request Get = false
asks_request Put = false
asks_request Remove = false
asks_request Clock = false
asks_request Random = false

-- a node that looks at the request
abbrev pub takes_request : Primitive → Bool
takes_request (node.Literal value) = false
takes_request node.Pass = false
takes_request (node.Unary op) = false
takes_request (node.Binary op) = false
takes_request node.Index = false
takes_request node.List = false
takes_request (node.Builtin call) = asks_request call
takes_request (node.OnStore call store) = asks_request call
takes_request (node.Transact shapes) = false
takes_request node.Decide = false
takes_request node.Status = false
takes_request node.Echo = false
takes_request node.Call = false
takes_request node.Unknown = false
takes_request (node.Member passed) = false

-- what takes these values, and perhaps the request as well
abbrev pub cost_by : (takes_request : Bool) → Request → List Datum → Cost
cost_by true q ds = taking_request q ds
cost_by false q ds = taking ds

-- what the step of a member's node is spent on
abbrev pub cost_at : List Request → Primitive → List Many → ℕ → Cost
cost_at qs p ms i = cost_by (takes_request p) (request_at qs i) (members_at i ms)

-- those of n members from the k-th on
abbrev pub costs_from : (k n : ℕ) → (ℕ → Cost) → List Cost
costs_from k zero c = []
costs_from k (suc n) c = c k ∷ costs_from (suc k) n c

-- what one step of n members costs
abbrev pub price : ℕ → (ℕ → Cost) → ℕ
price n c = step_cost (costs_from 0 n c)

-- ---- how the code tells it

-- all members have the same operands, and the same request where the node looks at it
abbrev pub agree : List Request → Primitive → List Many → Bool
agree qs p ms = list_all (is_shared (length qs)) ms && (alike_in qs || not (takes_request p))

-- one for all, or one for each
abbrev pub evaluations_if : (agreed : Bool) → (members : ℕ) → ℕ
evaluations_if agreed n = if agreed then 1 else n
