-- What is wrong with the counts and the logs of a report, each with the place that is at fault.
use Rattle.std.specs.Prelude.{ℕ, Bool, false, ◌&&◌, ◌||◌, not, List, length, Option, Some, None, is_none, nat_eq, nat_lt}
use Rattle.std.specs.List.{list_any}
use Rattle.basis.specs.Lists.{or_else, first_answer}
use Rattle.script_tree.specs.Objects.{Objects, is_same, plausible}
use Rattle.script_tree.specs.Programs.{Program}
use Rattle.period.specs.Traces.{request_of}
use Rattle.script_tree.specs.declared.operation.Object.{Object}
use Rattle.period.specs.declared.trace.TraceEvent.{TraceEvent}
use Rattle.period.specs.declared.trace.TraceEvent.TheVariants.{Asked, Answered}
use Rattle.script_fit.specs.OfProgram.{is_of_program, choice_is_of}
use Rattle.period.specs.declared.report.LogEntry.{LogEntry}
use Rattle.period.specs.declared.report.Report.{Report}
use Rattle.audit_meaning.specs.Lists.{answer_if, numbers, befores, last}
use Rattle.audit_meaning.specs.Spots.{Spot, spots, spot_of, operations_in, count_of}
use Rattle.period.specs.LeftBy.{left_by}
use Rattle.audit_meaning.specs.declared.reason.Reason.{Reason}
use Rattle.audit_meaning.specs.declared.reason.Reason.TheVariants.{SecondLog, SecondCount, CountOfNoRequest, RequestWithoutCount, ForeignEntry, EntryOfNoRequest, UncountedEntry, SecondEntry, OperationWithoutEntry, EntryOutOfOrder, ImplausibleEntry}

-- ---- an entry, with those before it in the report

-- what it does isn't the program's, or its choice isn't of the kind that this takes
unfoldable pub is_foreign : Program → Spot → Bool
is_foreign program spot = not (is_of_program program spot.object spot.entry.act && choice_is_of spot.entry.act spot.entry.choice)

-- its request isn't in the trace
unfoldable pub is_of_no_request : List TraceEvent → Spot → Bool
is_of_no_request trace spot = is_none (request_of trace spot.entry.rid)

-- its number isn't one that its request counts
unfoldable pub is_uncounted : Report → LogEntry → Bool
is_uncounted report entry = nat_eq entry.number 0 || nat_lt (count_of report entry.rid) entry.number

-- the spot is of this operation of this request
abbrev pub is_named : ℕ → ℕ → Spot → Bool
is_named r k spot = nat_eq r spot.entry.rid && nat_eq k spot.entry.number

-- the same operation stood earlier in the report
unfoldable pub is_second : List Spot → LogEntry → Bool
is_second earlier entry = list_any (is_named entry.rid entry.number) earlier

-- the entry just before it is of the same request, and its number isn't below
unfoldable pub is_out_of_order : Option LogEntry → LogEntry → Bool
is_out_of_order None entry = false
is_out_of_order (Some before) entry = nat_eq before.rid entry.rid && not (nat_lt before.number entry.number)

-- its object doesn't take the choice, as the entries before it leave it
unfoldable pub is_implausible : Objects → Spot → Bool
is_implausible start spot = not (plausible spot.entry.act spot.entry.choice (left_by spot.past (start spot.object)))

-- with the entry's place
abbrev pub at_entry : (Object → (position : ℕ) → Reason) → Spot → Bool → Option Reason
at_entry reason spot b = answer_if b (reason spot.object (length spot.past))

-- the first that is wrong with an entry
unfoldable pub entry_fault : Program → Objects → List TraceEvent → Report → List Spot × Spot → Option Reason
entry_fault program start trace report (earlier, spot) =
    or_else (at_entry ForeignEntry spot (is_foreign program spot))
    (or_else (at_entry EntryOfNoRequest spot (is_of_no_request trace spot))
    (or_else (at_entry UncountedEntry spot (is_uncounted report spot.entry))
    (or_else (at_entry SecondEntry spot (is_second earlier spot.entry))
    (or_else (at_entry EntryOutOfOrder spot (is_out_of_order (last spot.past) spot.entry))
    (at_entry ImplausibleEntry spot (is_implausible start spot))))))

-- ---- a report

-- a log's object has an earlier log
unfoldable pub second_log : Report → Option Reason
second_log report = first_answer (λ b. answer_if (list_any (λ log. is_same log.object b.1.object) b.0) (SecondLog b.1.object)) (befores report.logs)

-- a count's request has an earlier count
unfoldable pub second_count : Report → Option Reason
second_count report = first_answer (λ b. answer_if (list_any (λ count. nat_eq count.rid b.1.rid) b.0) (SecondCount b.1.rid)) (befores report.counts)

-- a count's request isn't in the trace
unfoldable pub count_of_no_request : List TraceEvent → Report → Option Reason
count_of_no_request trace report = first_answer (λ count. answer_if (is_none (request_of trace count.rid)) (CountOfNoRequest count.rid)) report.counts

-- of a request without a count, its reason
abbrev pub if_without_count : Report → TraceEvent → Option Reason
if_without_count report (Asked r request) = answer_if (is_none (first_answer (operations_in r) report.counts)) (RequestWithoutCount r)
if_without_count report (Answered r response) = None

-- a request has no count
unfoldable pub request_without_count : List TraceEvent → Report → Option Reason
request_without_count trace report = first_answer (if_without_count report) trace

-- an entry is at fault
unfoldable pub faulty_entry : Program → Objects → List TraceEvent → Report → Option Reason
faulty_entry program start trace report = first_answer (entry_fault program start trace report) (befores (spots report.logs))

-- of a request, its first operation that has no entry
abbrev pub if_without_entry : Report → TraceEvent → Option Reason
if_without_entry report (Asked r request) =
    first_answer (λ k. answer_if (is_none (spot_of report r k)) (OperationWithoutEntry r k))
    (numbers 1 (count_of report r))
if_without_entry report (Answered r response) = None

-- an operation that is counted has no entry
unfoldable pub operation_without_entry : List TraceEvent → Report → Option Reason
operation_without_entry trace report = first_answer (if_without_entry report) trace

-- the first that is wrong with counts and logs
unfoldable pub log_fault : Program → Objects → List TraceEvent → Report → Option Reason
log_fault program start trace report =
    or_else (second_log report)
    (or_else (second_count report)
    (or_else (count_of_no_request trace report)
    (or_else (request_without_count trace report)
    (or_else (faulty_entry program start trace report)
    (operation_without_entry trace report)))))
