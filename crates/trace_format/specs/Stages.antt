-- What is known of the ids of a trace that was read up to a place: nothing, that the request is
-- open, or that it was answered.
use Rattle.std.specs.Prelude.{◌≡◌, ◌≢◌, ℕ, ◌<◌, Bool, true, false, List, length, Option, Some, None}
use Rattle.std.specs.Ordering.{nat_cmp}
use Rattle.std.specs.BTreeMap.{BTreeMap, get, Updates}
use Rattle.trace_format.specs.Balance.{AsksAt}
use Rattle.script_tree.specs.Requests.{Request}
use Rattle.period.specs.declared.trace.TraceEvent.{TraceEvent}
use Rattle.trace_format.specs.Heads.{head_of}
use Rattle.trace_format.specs.declared.trace_file.EventHead.{EventHead}
use Rattle.trace_format.specs.declared.trace_file.EventHead.TheVariants.{Asks, Answers}
use Rattle.trace_format.specs.declared.balance.Stage.{Stage}
use Rattle.trace_format.specs.declared.balance.Stage.TheVariants.{Open, Closed}

-- the id of a kind of event
abbrev pub head_id : EventHead → ℕ
head_id (Asks rid) = rid
head_id (Answers rid) = rid

-- the id of an event
abbrev pub id_of : TraceEvent → ℕ
id_of e = head_id (head_of e)

-- whether an event fits, where this is known of its id
abbrev pub head_fits : EventHead → Option Stage → Bool
head_fits (Asks rid) None = true
head_fits (Asks rid) (Some stage) = false
head_fits (Answers rid) None = false
head_fits (Answers rid) (Some Open) = true
head_fits (Answers rid) (Some Closed) = false

-- the same of an event
abbrev pub fits : TraceEvent → Option Stage → Bool
fits e known = head_fits (head_of e) known

-- how its id stands after it
abbrev pub head_stage : EventHead → Stage
head_stage (Asks rid) = Open
head_stage (Answers rid) = Closed

-- the same of an event
abbrev pub stage_after : TraceEvent → Stage
stage_after e = head_stage (head_of e)

-- whether it is a request whose id is open
abbrev pub is_open : Option Stage → Bool
is_open None = false
is_open (Some Open) = true
is_open (Some Closed) = false

-- whether a kind of event is a request whose id is open
abbrev pub asks_open : (ℕ → Option Stage) → EventHead → Bool
asks_open stage (Asks rid) = is_open (stage rid)
asks_open stage (Answers rid) = false

-- what a map of stages knows of an id
abbrev pub stage_of : BTreeMap ℕ Stage → ℕ → Option Stage
stage_of stages rid = get nat_cmp stages rid

-- the map with the stage of the event's id after it
abbrev pub IsNoted : EventHead → BTreeMap ℕ Stage → BTreeMap ℕ Stage → Type 0
IsNoted head old new = Updates nat_cmp old new (head_id head) (Some (head_stage head))

-- before the place, no request is one of an open id
abbrev pub NoneOpen : (ℕ → Option Stage) → List TraceEvent → ℕ → Type 0
NoneOpen stage trace place =
    (k s : ℕ) (q : Request) → k < place → AsksAt trace k s q → stage s ≢ Some Open

-- the first request of an open id, if any
abbrev pub IsFirstOpen : (ℕ → Option Stage) → List TraceEvent → Option ℕ → Type 0
IsFirstOpen stage trace None = NoneOpen stage trace (length trace)
IsFirstOpen stage trace (Some r) =
    (place : ℕ)
    × (q : Request)
    × AsksAt trace place r q
    × (stage r ≡ Some Open)
    × NoneOpen stage trace place
