-- How a group of requests ends.
use Rattle.std.specs.Prelude.{ℕ, suc, ◌+◌, max, Bool, true, false, not, List, [], ◌∷◌, map, length, Option, Some, None, nat_lt}
use Rattle.std.specs.List.{list_all}
use Rattle.basis.specs.Lists.{nth, or_else, first_answer}
use Rattle.script_tree.specs.Objects.{Objects}
use Rattle.script_tree.specs.Programs.{Program}
use Rattle.script_tree.specs.Requests.{Request}
use Rattle.period.specs.Traces.{request_of, response_of}
use Rattle.script_tree.specs.declared.request.Response.{Response}
use Rattle.period.specs.declared.trace.TraceEvent.{TraceEvent}
use Rattle.period.specs.declared.report.Report.{Report}
use Rattle.script_meaning.specs.Conduct.{Ending, Wants, Ends, Undefined}
use Rattle.script_meaning.specs.Costs.{costs_of}
use Rattle.script_meaning.specs.GroupCost.{group_cost}
use Rattle.script_meaning.specs.Run.{Cost}
use Rattle.script_meaning.specs.Replay.{ending_of}
use Rattle.script_tree.specs.Alike.{same_response}
use Rattle.audit_meaning.specs.Lists.{answer_if, numbers, befores}
use Rattle.audit_meaning.specs.Members.{told, performed, MemberMark, marks_of, same_mark, is_bad}
use Rattle.audit_meaning.specs.Spots.{count_of}
use Rattle.audit_meaning.specs.declared.reason.Reason.{Reason}
use Rattle.audit_meaning.specs.declared.reason.Reason.TheVariants.{OtherOperation, FewerOperations, OtherResponse, MarksDiffer}

-- each is like the first
abbrev pub all_alike : List (Option MemberMark) → Bool
all_alike [] = true
all_alike (m ∷ ms) = list_all (same_mark m) ms

-- the length of the longest
abbrev pub longest : List (List MemberMark) → ℕ
longest [] = 0
longest (m ∷ ms) = max (length m) (longest ms)

-- whether a run ends with this response
abbrev pub gives : Ending → Option Response → Bool
gives (Ends x path) (Some y) = same_response x y
gives (Ends x path) None = false
gives (Wants op) y = false
gives Undefined y = false

-- the steps that a run spends
abbrev pub steps_to : Ending → ℕ
steps_to (Ends response path) = path.steps
steps_to (Wants op) = 0
steps_to Undefined = 0

module _ (program : Program) (start : Objects) (trace : List TraceEvent) (report : Report) where
  -- ---- a member, by its id

  -- the marks of an id with this request; none without one
  abbrev pub marks_by : ℕ → Option Request → List MemberMark
  marks_by r None = []
  marks_by r (Some request) = marks_of program start report r request

  -- its marks; none where it isn't in the trace
  unfoldable pub marks : ℕ → List MemberMark
  marks r = marks_by r (request_of trace r)

  -- how many operations of an id with this request are good
  abbrev pub done_by : ℕ → Option Request → ℕ
  done_by r None = 0
  done_by r (Some request) = performed program start report r request

  -- how many of its operations are good
  abbrev pub done : ℕ → ℕ
  done r = done_by r (request_of trace r)

  -- how the run of an id with this request ends after these
  abbrev pub end_by : ℕ → Option Request → Ending
  end_by r None = Undefined
  end_by r (Some request) = ending_of program request (told report start r (performed program start report r request))

  -- how its run ends after these
  abbrev pub end_of : ℕ → Ending
  end_of r = end_by r (request_of trace r)

  -- ---- a group

  -- its mark at a place is bad
  abbrev pub if_bad : ℕ → ℕ → Option Reason
  if_bad i r = answer_if (is_bad (nth (marks r) i)) (OtherOperation r (suc (done r)))

  -- at a place, a member's mark is bad, or marks differ; the group has this number
  abbrev pub mark_fault : ℕ → List ℕ → ℕ → Option Reason
  mark_fault g group i = or_else (first_answer (if_bad i) group) (answer_if (not (all_alike (map (λ r. nth (marks r) i) group))) (MarksDiffer g i))

  -- a member issued fewer operations than are counted
  abbrev pub if_fewer : ℕ → Option Reason
  if_fewer r = answer_if (nat_lt (done r) (count_of report r)) (FewerOperations r (suc (done r)))

  -- a member's response isn't the trace's
  abbrev pub if_unlike : ℕ → Option Reason
  if_unlike r = answer_if (not (gives (end_of r) (response_of trace r))) (OtherResponse r)

  -- the first that is wrong with a group
  unfoldable pub group_fault : ℕ → List ℕ → Option Reason
  group_fault g group =
      or_else (first_answer (mark_fault g group) (numbers 0 (longest (map marks group))))
      (or_else (first_answer if_fewer group) (first_answer if_unlike group))

  -- what is wrong with the least group that isn't sound
  unfoldable pub unsound_group : Option Reason
  unsound_group = first_answer (λ b. group_fault (length b.0) b.1) (befores report.groups)

  -- ---- steps

  -- the steps of several members together
  abbrev pub steps_of_all : List ℕ → ℕ
  steps_of_all [] = 0
  steps_of_all (r ∷ rs) = steps_to (end_of r) + steps_of_all rs

  -- ---- what groups cost

  -- what the steps of an id with this request are spent on, the last first
  abbrev pub costs_by : ℕ → Option Request → List Cost
  costs_by r None = []
  costs_by r (Some request) = costs_of program request (told report start r (performed program start report r request))

  -- what a member's steps are spent on, the last first
  unfoldable pub costs : ℕ → List Cost
  costs r = costs_by r (request_of trace r)

  -- how many nodes a sound group is to evaluate
  abbrev pub cost_of_group : List ℕ → ℕ
  cost_of_group group = group_cost (map costs group)

  -- how many nodes these groups are to evaluate, where they are sound
  abbrev pub cost_of_all : List (List ℕ) → ℕ
  cost_of_all [] = 0
  cost_of_all (g ∷ gs) = cost_of_group g + cost_of_all gs
