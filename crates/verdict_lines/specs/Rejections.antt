-- The line of each reason for which a report is rejected: docs/formats.md.
use Rattle.std.specs.Prelude.{ℕ, List, ◌++◌, codes}
use Rattle.std.specs.Fmt.{decimal}
use Rattle.audit_meaning.specs.declared.reason.Reason.{Reason}
use Rattle.audit_meaning.specs.declared.reason.Reason.TheVariants.{Unreadable, SecondLog, SecondCount, CountOfNoRequest, RequestWithoutCount, ForeignEntry, EntryOfNoRequest, UncountedEntry, SecondEntry, OperationWithoutEntry, EntryOutOfOrder, ImplausibleEntry, Cycle, MemberOfNoRequest, SecondMember, RequestWithoutGroup, MarksDiffer, OtherOperation, FewerOperations, OtherResponse}
use Rattle.verdict_lines.specs.Fields.{object_text, entry_text, cycle_text}

-- the number by which a reason is told
abbrev pub reason_number : Reason → ℕ
reason_number (Unreadable at) = 1
reason_number (SecondLog object) = 2
reason_number (SecondCount rid) = 3
reason_number (CountOfNoRequest rid) = 4
reason_number (RequestWithoutCount rid) = 5
reason_number (ForeignEntry object position) = 6
reason_number (EntryOfNoRequest object position) = 7
reason_number (UncountedEntry object position) = 8
reason_number (SecondEntry object position) = 9
reason_number (OperationWithoutEntry rid operation) = 10
reason_number (EntryOutOfOrder object position) = 11
reason_number (ImplausibleEntry object position) = 12
reason_number (Cycle nodes) = 13
reason_number (MemberOfNoRequest rid) = 14
reason_number (SecondMember rid) = 15
reason_number (RequestWithoutGroup rid) = 16
reason_number (MarksDiffer group mark) = 17
reason_number (OtherOperation rid operation) = 18
reason_number (FewerOperations rid operation) = 19
reason_number (OtherResponse rid) = 20

-- a request, by its id
abbrev pub request_text : ℕ → List ℕ
request_text rid = codes "request " ++ decimal rid

-- an operation, by its request and its number
abbrev pub operation_text : ℕ → ℕ → List ℕ
operation_text rid operation = codes "request " ++ (decimal rid ++ (codes " operation " ++ decimal operation))

-- the place that is at fault
abbrev pub reason_text : Reason → List ℕ
reason_text (Unreadable at) = codes "unreadable at " ++ decimal at
reason_text (SecondLog object) = object_text object
reason_text (SecondCount rid) = request_text rid
reason_text (CountOfNoRequest rid) = request_text rid
reason_text (RequestWithoutCount rid) = request_text rid
reason_text (ForeignEntry object position) = entry_text object position
reason_text (EntryOfNoRequest object position) = entry_text object position
reason_text (UncountedEntry object position) = entry_text object position
reason_text (SecondEntry object position) = entry_text object position
reason_text (OperationWithoutEntry rid operation) = operation_text rid operation
reason_text (EntryOutOfOrder object position) = entry_text object position
reason_text (ImplausibleEntry object position) = entry_text object position
reason_text (Cycle nodes) = cycle_text nodes
reason_text (MemberOfNoRequest rid) = request_text rid
reason_text (SecondMember rid) = request_text rid
reason_text (RequestWithoutGroup rid) = request_text rid
reason_text (MarksDiffer group mark) = codes "group " ++ (decimal group ++ (codes " mark " ++ decimal mark))
reason_text (OtherOperation rid operation) = operation_text rid operation
reason_text (FewerOperations rid operation) = operation_text rid operation
reason_text (OtherResponse rid) = request_text rid

-- the line of a rejection: the number of its reason, and the place that is at fault
abbrev pub rejection_line : Reason → List ℕ
rejection_line reason =
    codes "rejected "
    ++ (decimal (reason_number reason) ++ (codes ": " ++ (reason_text reason ++ codes "\n")))
