-- A part of a run that each member of a group does.
use Rattle.std.specs.Prelude.{◌≡◌, ◌<◌, ◌+◌, ℕ, Bool, List, length, get_or, Result, Ok, Err}
use Rattle.script_tree.specs.declared.fault.ScriptFault.{ScriptFault}
use Rattle.script_tree.specs.Datum.{Datum}
use Rattle.script_tree.specs.Requests.{Request}
use Rattle.script_meaning.specs.Evaluate.{Flow}
use Rattle.script_meaning.specs.Run.{Progress, Ran, stops, Run, give, take_answer, ◌>>=◌}
use Rattle.script_meaning.specs.declared.run.Stop.TheVariants.{Fault as fault}
use Rattle.script_nodes.specs.Evaluated.{node_run}
use Rattle.script_nodes.specs.NodeLaws.{noted}
use Rattle.script_nodes.specs.declared.primitive.Primitive.{Primitive}
use Rattle.group_laws.specs.Nodes.{GivesTruth, GoesOn, LacksFaults}
use Rattle.group_laws.specs.Steady.{IsSteady}
use Rattle.multivalue.specs.Many.{Many, member_value}
use Rattle.multivalue.specs.declared.apart.Apart.{Apart}
use Rattle.multivalue.specs.declared.apart.Apart.TheVariants.{Memory, Fault, Differ}
use Rattle.multi_nodes.specs.Answers.{nothing}
use Rattle.multi_nodes.specs.Charges.{cost_at}
use Rattle.multi_nodes.specs.Members.{answer_at}
use Rattle.multi_state.specs.Parting.{Parts}
use Rattle.multi_state.specs.Progress.{Charges, total, Unseen, progress_at}
use Rattle.multi_state.specs.declared.account.Account.{Account}
use Rattle.multi_state.specs.declared.given.Given.{Given}
use Rattle.multi_state.specs.declared.given.Given.TheVariants.{Values, Wants}

-- ---- one member

-- It came to this with what was returned, or it stops at the fault. Where there was no memory nothing is said, and where
-- members differ nothing of one alone.
abbrev pub Gives : {X A : Type 0} → (seen : X → Run A) → Result X Apart → Progress → Ran A → Type 0
Gives seen (Ok x) p o = o ≡ seen x p
Gives seen (Err Memory) p o = Unit {0}
Gives seen (Err (Fault f)) p o = o ≡ stops (fault f) p
Gives seen (Err Differ) p o = Unit {0}

-- ---- all members

-- From these charges the group comes to others, by which the count of nodes rises, and this holds of each of n members.
abbrev pub Comes : (n before after' : ℕ) → (Charges → Charges → ℕ → Unseen → Type 0) → Type 0
Comes n before after' P = (cs : Charges) → (ds : Charges) × (after' + total n cs ≡ before + total n ds) × ((i : ℕ) → i < n → (u : Unseen) → P cs ds i u)

-- The same, unless there was no memory; where members differ, something else holds.
abbrev pub AllDo : {X : Type 0} → (n before after' : ℕ) → Result X Apart → (Charges → Charges → ℕ → Unseen → Type 0) → (differing : Type 0) → Type 0
AllDo n before after' (Ok x) P D = Comes n before after' P
AllDo n before after' (Err Memory) P D = Unit {0}
AllDo n before after' (Err (Fault f)) P D = Comes n before after' P
AllDo n before after' (Err Differ) P D = D

-- This holds of each of n members, whose charges stay as they are, unless there was no memory; where members differ,
-- something else holds.
abbrev pub AllGo : {X : Type 0} → (n : ℕ) → Result X Apart → (Charges → ℕ → Unseen → Type 0) → (differing : Type 0) → Type 0
AllGo n (Ok x) P D = (cs : Charges) (i : ℕ) → i < n → (u : Unseen) → P cs i u
AllGo n (Err Memory) P D = Unit {0}
AllGo n (Err (Fault f)) P D = (cs : Charges) (i : ℕ) → i < n → (u : Unseen) → P cs i u
AllGo n (Err Differ) P D = D

-- ---- nodes

-- a member's node
abbrev pub node_at : List Request → Primitive → List Many → ℕ → Run Datum
node_at qs p ms i = node_run (cost_at qs p ms i) (answer_at qs p ms i)

-- a member has its value, or takes the answer to its operation
abbrev pub given_at : ℕ → Given → Run Datum
given_at i (Values m) = give (member_value m i)
given_at i (Wants ops) = take_answer (get_or ops i nothing)

-- Members part at a node, after which each goes on so that it fails at once at some faults alone, which no node has.
abbrev pub NodesPart : List Request → Primitive → List Many → Account → Type 0
NodesPart qs p ms old = (faults : ScriptFault → Bool) → ((i : ℕ) → i < length qs → LacksFaults faults (answer_at qs p ms i))
    → Parts (Datum → Run Flow) (length qs) (λ onward i. node_at qs p ms i >>= onward) (λ onward i. GoesOn faults (answer_at qs p ms i) onward) old

-- Each member does a node, and this is what it comes to.
abbrev pub NodesDo : (before after' : ℕ) → List Request → Primitive → List Many → Account → Result Given Apart → Account → Type 0
NodesDo before after' qs p ms old result new =
    AllDo (length qs) before after' result
    (λ cs ds i u. Gives (given_at i) result (progress_at new ds i u) (node_at qs p ms i (progress_at old cs i u)))
    (NodesPart qs p ms old)

-- Each member does a node that is no operation, and has this value.
abbrev pub ValuesDo : (before after' : ℕ) → List Request → Primitive → List Many → Account → Result Many Apart → Account → Type 0
ValuesDo before after' qs p ms old result new =
    AllDo (length qs) before after' result (λ cs ds i u. Gives (λ m. give (member_value m i)) result
    (progress_at new ds i u) (node_at qs p ms i (progress_at old cs i u))) (NodesPart qs p ms old)

-- Members part at a decision by a node whose values are truths.
abbrev pub DecisionsPart : List Request → Primitive → List Many → Account → Type 0
DecisionsPart qs p ms old = ((i : ℕ) → i < length qs → GivesTruth (answer_at qs p ms i))
    → Parts (Bool → Run Flow) (length qs) (λ onward i. node_at qs p ms i >>= noted >>= onward) (λ onward i. (b : Bool) → IsSteady (onward b)) old

-- Each member decides by the value of a node, and all decide so.
abbrev pub AllDecide : (before after' : ℕ) → List Request → Primitive → List Many → Account → Result Bool Apart → Account → Type 0
AllDecide before after' qs p ms old result new =
    AllDo (length qs) before after' result
    (λ cs ds i u. Gives give result (progress_at new ds i u) ((node_at qs p ms i >>= noted) (progress_at old cs i u)))
    (DecisionsPart qs p ms old)
