-- What is wrong with the grouping of a report, each with the place that is at fault.
use Rattle.std.specs.Prelude.{ℕ, not, List, flat_map, Option, None, is_none, nat_eq}
use Rattle.std.specs.List.{list_any}
use Rattle.basis.specs.Lists.{or_else, first_answer}
use Rattle.period.specs.Traces.{request_of}
use Rattle.period.specs.declared.trace.TraceEvent.{TraceEvent}
use Rattle.period.specs.declared.trace.TraceEvent.TheVariants.{Asked, Answered}
use Rattle.period.specs.declared.report.Report.{Report}
use Rattle.audit_meaning.specs.Lists.{answer_if, befores}
use Rattle.audit_meaning.specs.declared.reason.Reason.{Reason}
use Rattle.audit_meaning.specs.declared.reason.Reason.TheVariants.{MemberOfNoRequest, SecondMember, RequestWithoutGroup}

-- the members of all groups, in their order
unfoldable pub members : Report → List ℕ
members report = flat_map (λ group. group) report.groups

-- a member isn't in the trace
unfoldable pub member_of_no_request : List TraceEvent → Report → Option Reason
member_of_no_request trace report = first_answer (λ r. answer_if (is_none (request_of trace r)) (MemberOfNoRequest r)) (members report)

-- a member stood earlier in some group
unfoldable pub second_member : Report → Option Reason
second_member report = first_answer (λ b. answer_if (list_any (nat_eq b.1) b.0) (SecondMember b.1)) (befores (members report))

-- of a request in no group, its reason
abbrev pub if_without_group : Report → TraceEvent → Option Reason
if_without_group report (Asked r request) = answer_if (not (list_any (nat_eq r) (members report))) (RequestWithoutGroup r)
if_without_group report (Answered r response) = None

-- a request is in no group
unfoldable pub request_without_group : List TraceEvent → Report → Option Reason
request_without_group trace report = first_answer (if_without_group report) trace

-- the first that is wrong with the grouping
unfoldable pub grouping_fault : List TraceEvent → Report → Option Reason
grouping_fault trace report = or_else (member_of_no_request trace report) (or_else (second_member report) (request_without_group trace report))
