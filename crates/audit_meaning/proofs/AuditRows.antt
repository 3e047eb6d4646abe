-- Worked examples of audits, computed.
use Rattle.std.proofs.Common.{◌≡◌, ℕ, List, [], ◌∷◌, codes, pos, if◌then◌else◌, refl}
use Rattle.std.specs.Fmt.{digits}
use Rattle.basis.specs.Lists.{first_answer, or_else}
use Rattle.script_tree.specs.Datum.{Datum, number, text, list, data_of}
use Rattle.script_tree.specs.Objects.{Objects, rows, is_same, acted, plausible, nothing_stored}
use Rattle.script_tree.specs.Programs.{Program, program_of}
use Rattle.script_tree.specs.Requests.{Request}
use Rattle.script_tree.specs.Syntax.{echo, do_, call, no_expression}
use Rattle.period.specs.Traces.{request_of, response_of}
use Rattle.script_tree.specs.declared.operation.Act.{Act as Deed}
use Rattle.script_tree.specs.declared.operation.Act.TheVariants.{Read, Write, Get, Put, Remove, Transact, Now, Roll}
use Rattle.script_tree.specs.declared.operation.Choice.TheVariants.{Nothing, Number}
use Rattle.script_tree.specs.declared.operation.Object.{Object}
use Rattle.script_tree.specs.declared.operation.Object.TheVariants.{Register, Store, Tables, Clock, Dice}
use Rattle.script_tree.specs.declared.request.Response.{Response}
use Rattle.script_tree.specs.declared.transaction.Statement.{Statement}
use Rattle.script_tree.specs.declared.transaction.Statement.TheVariants.{Insert, Select, Update, Delete}
use Rattle.period.specs.declared.schedule.Moment.TheVariants.{Arrive, Act, Depart}
use Rattle.period.specs.declared.trace.TraceEvent.{TraceEvent}
use Rattle.period.specs.declared.trace.TraceEvent.TheVariants.{Asked, Answered}
use Rattle.period.specs.declared.report.Count.{Count}
use Rattle.period.specs.declared.report.Log.{Log}
use Rattle.period.specs.declared.report.LogEntry.{LogEntry}
use Rattle.period.specs.declared.report.Report.{Report}
use Rattle.script_meaning.specs.Replay.{ending_of}
use Rattle.script_meaning.proofs.Programs.{sum_page, hit_page, two_calls_page, table_page, store_page, dice_page, page, get, call1, call2, str, num}
use Rattle.audit_meaning.specs.Cycles.{cycle_of}
use Rattle.audit_meaning.specs.Edges.{edges}
use Rattle.audit_meaning.specs.GroupFaults.{members, member_of_no_request, second_member, request_without_group, grouping_fault}
use Rattle.audit_meaning.specs.Groups.{marks, group_fault, unsound_group, costs, cost_of_all}
use Rattle.audit_meaning.specs.Lists.{answer_if}
use Rattle.audit_meaning.specs.LogFaults.{is_foreign, is_of_no_request, is_uncounted, is_second, is_out_of_order, is_implausible, entry_fault, second_log, second_count, count_of_no_request, request_without_count, faulty_entry, operation_without_entry, log_fault}
use Rattle.audit_meaning.specs.Members.{signs, marks_of}
use Rattle.audit_meaning.specs.Nodes.{step, close, nodes, log_of}
use Rattle.audit_meaning.specs.Orders.{order_of}
use Rattle.audit_meaning.specs.Spots.{spot_of, count_of}
use Rattle.audit_meaning.specs.Verdicts.{Accepted, Rejected, evaluated_nodes, plain_steps, verdict}
use Rattle.audit_meaning.specs.declared.reason.Reason.TheVariants.{SecondLog, SecondCount, CountOfNoRequest, RequestWithoutCount, ForeignEntry, EntryOfNoRequest, UncountedEntry, SecondEntry, OperationWithoutEntry, EntryOutOfOrder, ImplausibleEntry, MemberOfNoRequest, SecondMember, RequestWithoutGroup, OtherOperation, FewerOperations, OtherResponse, Cycle, MarksDiffer}

-- what an example unfolds
all : Unit {0}
unfolding digits first_answer or_else answer_if acted plausible request_of response_of ending_of spot_of count_of log_of nodes edges order_of cycle_of signs marks_of marks group_fault unsound_group costs is_foreign is_of_no_request is_uncounted is_second is_out_of_order is_implausible entry_fault second_log second_count count_of_no_request request_without_count faulty_entry operation_without_entry log_fault members member_of_no_request second_member request_without_group grouping_fault evaluated_nodes plain_steps verdict
all = tt

-- ---- words for traces and reports

abbrev hit : Request
hit = get (codes "/hit")

abbrev says : List ℕ → Response
says body = record { status = 200; body = body }

abbrev counts : ℕ → ℕ → Count
counts r n = record { rid = r; operations = n }

abbrev reads : ℕ → ℕ → LogEntry
reads r k = record { rid = r; number = k; act = Read; choice = Nothing }

abbrev writes : ℕ → ℕ → ℕ → LogEntry
writes r k n = record { rid = r; number = k; act = Write (number (pos n)); choice = Nothing }

abbrev log : Object → List LogEntry → Log
log object entries = record { object = object; entries = entries }

abbrev register : List ℕ → List LogEntry → Log
register x entries = log (Register x) entries

abbrev report : List Count → List Log → List (List ℕ) → Report
report counts logs groups = record { counts = counts; logs = logs; groups = groups }

abbrev two_counts : List Count
two_counts = counts 0 2 ∷ counts 1 2 ∷ []

-- ---- nothing happened

empty_is_accepted : verdict hit_page nothing_stored [] (report [] [] []) ≡ Accepted [] 0 0
unfolding all
empty_is_accepted = refl

-- ---- two hits, one after the other

abbrev hits : List TraceEvent
hits = Asked 0 hit ∷ Answered 0 (says (codes "1")) ∷ Asked 1 hit ∷ Answered 1 (says (codes "2")) ∷ []

abbrev hits_in : List (List ℕ) → Report
hits_in groups = report two_counts (register (codes "hits") (reads 0 1 ∷ writes 0 2 1 ∷ reads 1 1 ∷ writes 1 2 2 ∷ []) ∷ []) groups

two_hits : verdict hit_page nothing_stored hits (hits_in ((0 ∷ []) ∷ (1 ∷ []) ∷ []))
    ≡ Accepted (Arrive 0 ∷ Act 0 Nothing ∷ Act 0 Nothing ∷ Depart 0 ∷ Arrive 1 ∷ Act 1 Nothing ∷ Act 1 Nothing ∷ Depart 1 ∷ []) 36 36
unfolding all
two_hits = refl

-- in one group they decide differently
one_group : verdict hit_page nothing_stored hits (hits_in ((0 ∷ 1 ∷ []) ∷ [])) ≡ Rejected (MarksDiffer 0 1)
unfolding all
one_group = refl

-- ---- two hits at once

abbrev at_once : Report
at_once = report two_counts (register (codes "hits") (reads 0 1 ∷ reads 1 1 ∷ writes 0 2 1 ∷ writes 1 2 1 ∷ []) ∷ []) ((0 ∷ 1 ∷ []) ∷ [])

hits_at_once : verdict hit_page nothing_stored (Asked 0 hit ∷ Asked 1 hit ∷ Answered 0 (says (codes "1")) ∷ Answered 1 (says (codes "1")) ∷ []) at_once
    ≡ Accepted (Arrive 0 ∷ Act 0 Nothing ∷ Arrive 1 ∷ Act 1 Nothing ∷ Act 0 Nothing ∷ Depart 0 ∷ Act 1 Nothing ∷ Depart 1 ∷ []) 21 38
unfolding all
hits_at_once = refl

-- the same logs of hits that weren't at once
against_time : verdict hit_page nothing_stored (Asked 0 hit ∷ Answered 0 (says (codes "1")) ∷ Asked 1 hit ∷ Answered 1 (says (codes "1")) ∷ []) at_once
    ≡ Rejected (Cycle (step 0 2 ∷ close 0 ∷ step 1 0 ∷ step 1 1 ∷ []))
unfolding all
against_time = refl

-- ---- one hit

abbrev one_hit : ℕ → ℕ → Report
one_hit n written = report (counts 0 n ∷ []) (register (codes "hits") (reads 0 1 ∷ writes 0 2 written ∷ []) ∷ []) ((0 ∷ []) ∷ [])

abbrev hit_answered : List ℕ → List TraceEvent
hit_answered body = Asked 0 hit ∷ Answered 0 (says body) ∷ []

too_many_counted : verdict hit_page nothing_stored (hit_answered (codes "1")) (one_hit 3 1) ≡ Rejected (OperationWithoutEntry 0 3)
unfolding all
too_many_counted = refl

too_few_counted : verdict hit_page nothing_stored (hit_answered (codes "1")) (one_hit 1 1) ≡ Rejected (UncountedEntry (Register (codes "hits")) 1)
unfolding all
too_few_counted = refl

another_is_written : verdict hit_page nothing_stored (hit_answered (codes "2")) (one_hit 2 2) ≡ Rejected (OtherOperation 0 2)
unfolding all
another_is_written = refl

-- ---- a sum, without any operation

in_no_group : verdict sum_page nothing_stored (Asked 0 (get (codes "/e")) ∷ Answered 0 (says (codes "3")) ∷ [])
    (report (counts 0 0 ∷ []) [] []) ≡ Rejected (RequestWithoutGroup 0)
unfolding all
in_no_group = refl

another_answer : verdict sum_page nothing_stored (Asked 0 (get (codes "/e")) ∷ Answered 0 (says (codes "4")) ∷ [])
    (report (counts 0 0 ∷ []) [] ((0 ∷ []) ∷ [])) ≡ Rejected (OtherResponse 0)
unfolding all
another_answer = refl

-- ---- page "/r" { echo read("a"); }

abbrev read_page : Program
read_page = program_of (page (codes "/r") (echo 0 (call1 (codes "read") (str (codes "a"))) ∷ []) ∷ [])

abbrev read_it : ℕ → List ℕ → List TraceEvent
read_it r body = Asked r (get (codes "/r")) ∷ Answered r (says body) ∷ []

twice_logged : verdict read_page nothing_stored (read_it 0 (codes "null"))
    (report (counts 0 1 ∷ []) (register (codes "a") (reads 0 1 ∷ []) ∷ register (codes "b") (reads 0 1 ∷ []) ∷ [])
    ((0 ∷ []) ∷ []))
    ≡ Rejected (SecondEntry (Register (codes "b")) 0)
unfolding all
twice_logged = refl

-- three requests, one after the other; the walk goes by the nearest departure alone
longer_cycle : verdict read_page nothing_stored
    (Asked 0 (get (codes "/r")) ∷ Answered 0 (says (codes "null")) ∷ Asked 1 (get (codes "/r")) ∷ Answered 1
    (says (codes "null")) ∷ Asked 2 (get (codes "/r")) ∷ Answered 2 (says (codes "null")) ∷ [])
    (report (counts 0 1 ∷ counts 1 1 ∷ counts 2 1 ∷ []) (register (codes "a") (reads 2 1 ∷ reads 0 1 ∷ reads 1 1 ∷ []) ∷ []) ((0 ∷ 1 ∷ 2 ∷ []) ∷ []))
    ≡ Rejected (Cycle (step 0 1 ∷ step 1 1 ∷ close 1 ∷ step 2 0 ∷ step 2 1 ∷ []))
unfolding all
longer_cycle = refl

-- ---- page "/f" { do write("A", 1); echo read("B"); } page "/g" { do write("B", 1); echo read("A"); }

abbrev crossed_page : Program
crossed_page = program_of (
    page (codes "/f") (do_ 0 (call2 (codes "write") (str (codes "A")) (num 1)) ∷ echo 0 (call1 (codes "read") (str (codes "B"))) ∷ [])
    ∷ page (codes "/g") (do_ 0 (call2 (codes "write") (str (codes "B")) (num 1)) ∷ echo 0 (call1 (codes "read") (str (codes "A"))) ∷ [])
    ∷ [])

crossed : verdict crossed_page nothing_stored
    (Asked 0 (get (codes "/f")) ∷ Asked 1 (get (codes "/g")) ∷ Answered 0 (says (codes "0")) ∷ Answered 1
    (says (codes "0")) ∷ [])
    (report two_counts (register (codes "A") (reads 1 2 ∷ writes 0 1 1 ∷ []) ∷ register (codes "B") (reads 0 2 ∷ writes 1 1 1 ∷ []) ∷ []) ((0 ∷ []) ∷ (1 ∷ []) ∷ []))
    ≡ Rejected (Cycle (step 0 1 ∷ step 0 2 ∷ step 1 1 ∷ step 1 2 ∷ []))
unfolding all
crossed = refl

-- ---- page "/t" { echo clock(); }

abbrev clock_page : Program
clock_page = program_of (page (codes "/t") (echo 0 (call 0 (codes "clock") no_expression) ∷ []) ∷ [])

abbrev clock_reads : ℕ → ℕ → LogEntry
clock_reads r n = record { rid = r; number = 1; act = Now; choice = Number (pos n) }

abbrev two_clocks : ℕ → ℕ → Report
two_clocks m n = report (counts 0 1 ∷ counts 1 1 ∷ []) (log Clock (clock_reads 0 m ∷ clock_reads 1 n ∷ []) ∷ []) ((0 ∷ 1 ∷ []) ∷ [])

clock_goes_back : verdict clock_page nothing_stored
    (Asked 0 (get (codes "/t")) ∷ Asked 1 (get (codes "/t")) ∷ Answered 0 (says (codes "5")) ∷ Answered 1
    (says (codes "4")) ∷ []) (two_clocks 5 4)
    ≡ Rejected (ImplausibleEntry Clock 1)
unfolding all
clock_goes_back = refl

clock_stands : verdict clock_page nothing_stored
    (Asked 0 (get (codes "/t")) ∷ Asked 1 (get (codes "/t")) ∷ Answered 0 (says (codes "5")) ∷ Answered 1
    (says (codes "5")) ∷ []) (two_clocks 5 5)
    ≡ Accepted (Arrive 0 ∷ Act 0 (Number (pos 5)) ∷ Depart 0 ∷ Arrive 1 ∷ Act 1 (Number (pos 5)) ∷ Depart 1 ∷ []) 3 4
unfolding all
clock_stands = refl

-- ---- page "/d" { echo random(6); }

abbrev rolled : ℕ → Report
rolled n = report (counts 0 1 ∷ []) (log Dice (record { rid = 0; number = 1; act = Roll (pos 6); choice = Number (pos n) } ∷ []) ∷ []) ((0 ∷ []) ∷ [])

abbrev roll_answered : List ℕ → List TraceEvent
roll_answered body = Asked 0 (get (codes "/d")) ∷ Answered 0 (says body) ∷ []

beyond_the_bound : verdict dice_page nothing_stored (roll_answered (codes "6")) (rolled 6) ≡ Rejected (ImplausibleEntry Dice 0)
unfolding all
beyond_the_bound = refl

below_the_bound : verdict dice_page nothing_stored (roll_answered (codes "5")) (rolled 5) ≡ Accepted (Arrive 0 ∷ Act 0 (Number (pos 5)) ∷ Depart 0 ∷ []) 3 3
unfolding all
below_the_bound = refl

-- ---- an insert of a key that is there aborts its transaction

abbrev one_row : Objects
one_row o = if is_same o Tables then rows (((text (codes "a") ∷ number (pos 0) ∷ []) ∷ []) ∷ []) else nothing_stored o

abbrev transacts : ℕ → List Statement → LogEntry
transacts k ss = record { rid = 0; number = k; act = Transact ss; choice = Nothing }

tables_are_left : verdict table_page one_row (Asked 0 (get (codes "/x")) ∷ Answered 0 (says (codes "true0")) ∷ [])
    (report (counts 0 2 ∷ []) (log Tables (
    transacts 1 (Update 0 (record { column = 1; value = number (pos 1) } ∷ []) [] ∷ Insert 0 (text (codes "a") ∷ number (pos 2) ∷ []) ∷ [])
    ∷ transacts 2 (Select 0 (1 ∷ []) [] ∷ [])
    ∷ []) ∷ []) ((0 ∷ []) ∷ []))
    ≡ Accepted (Arrive 0 ∷ Act 0 Nothing ∷ Act 0 Nothing ∷ Depart 0 ∷ []) 19 19
unfolding all
tables_are_left = refl

-- a table that isn't there
foreign_table : verdict table_page one_row (Asked 0 (get (codes "/x")) ∷ Answered 0 (says (codes "true0")) ∷ [])
    (report (counts 0 1 ∷ []) (log Tables (transacts 1 (Delete 1 [] ∷ []) ∷ []) ∷ []) ((0 ∷ []) ∷ []))
    ≡ Rejected (ForeignEntry Tables 0)
unfolding all
foreign_table = refl

-- ---- a store keeps what is put until it is removed

abbrev stored : Deed → ℕ → LogEntry
stored act k = record { rid = 0; number = k; act = act; choice = Nothing }

abbrev pair : Datum
pair = list (data_of (number (pos 1) ∷ text (codes "x") ∷ []))

a_store : verdict store_page nothing_stored (Asked 0 (get (codes "/p")) ∷ Answered 0 (says (codes "xtrue")) ∷ [])
    (report (counts 0 4 ∷ []) (log (Store (codes "s")) (stored (Put (codes "k") pair) 1 ∷ stored (Get (codes "k")) 2 ∷ stored (Remove (codes "k")) 3 ∷ stored (Get (codes "k")) 4 ∷ []) ∷ []) ((0 ∷ []) ∷ []))
    ≡ Accepted (Arrive 0 ∷ Act 0 Nothing ∷ Act 0 Nothing ∷ Act 0 Nothing ∷ Act 0 Nothing ∷ Depart 0 ∷ []) 19 19
unfolding all
a_store = refl

-- ---- two requests that end by one fault after other steps

abbrev two_calls : List ℕ → List ℕ → Request
two_calls a b = record {
  method = codes "GET";
  path = codes "/z";
  parameters = record { name = codes "a"; value = a } ∷ record { name = codes "b"; value = b } ∷ [];
  body = [];
}

abbrev faults : Response
faults = record { status = 500; body = codes "fault 1\n" }

abbrev calls : List TraceEvent
calls = Asked 0 (two_calls (codes "x") (codes "1")) ∷ Answered 0 faults ∷ Asked 1 (two_calls (codes "1") (codes "x")) ∷ Answered 1 faults ∷ []

in_two_groups : verdict two_calls_page nothing_stored calls (report (counts 0 0 ∷ counts 1 0 ∷ []) [] ((0 ∷ []) ∷ (1 ∷ []) ∷ []))
    ≡ Accepted (Arrive 0 ∷ Depart 0 ∷ Arrive 1 ∷ Depart 1 ∷ []) 23 23
unfolding all
in_two_groups = refl

forced_into_one : verdict two_calls_page nothing_stored calls (report (counts 0 0 ∷ counts 1 0 ∷ []) [] ((0 ∷ 1 ∷ []) ∷ []))
    ≡ Rejected (MarksDiffer 0 0)
unfolding all
forced_into_one = refl

-- ---- of several groups at fault the least is named

abbrev sums : List TraceEvent
sums = Asked 0 (get (codes "/e")) ∷ Asked 1 (get (codes "/e")) ∷ Asked 2 (get (codes "/e"))
    ∷ Answered 0 (says (codes "3")) ∷ Answered 1 (says (codes "4")) ∷ Answered 2 (says (codes "4")) ∷ []

least_group : verdict sum_page nothing_stored sums
    (report (counts 0 0 ∷ counts 1 0 ∷ counts 2 0 ∷ []) [] ((0 ∷ []) ∷ (2 ∷ []) ∷ (1 ∷ []) ∷ []))
    ≡ Rejected (OtherResponse 2)
unfolding all
least_group = refl

-- ---- counts

counted_twice : verdict sum_page nothing_stored sums (report (counts 0 0 ∷ counts 5 0 ∷ counts 0 0 ∷ []) [] []) ≡ Rejected (SecondCount 0)
unfolding all
counted_twice = refl

counted_though_unknown : verdict sum_page nothing_stored sums (report (counts 0 0 ∷ counts 5 0 ∷ []) [] []) ≡ Rejected (CountOfNoRequest 5)
unfolding all
counted_though_unknown = refl

not_counted : verdict sum_page nothing_stored sums (report (counts 0 0 ∷ counts 2 0 ∷ []) [] []) ≡ Rejected (RequestWithoutCount 1)
unfolding all
not_counted = refl

-- ---- logs and groups

two_logs : verdict read_page nothing_stored (read_it 0 (codes "null"))
    (report (counts 0 1 ∷ []) (register (codes "a") (reads 0 1 ∷ []) ∷ register (codes "a") [] ∷ []) ((0 ∷ []) ∷ []))
    ≡ Rejected (SecondLog (Register (codes "a")))
unfolding all
two_logs = refl

of_nobody : verdict read_page nothing_stored (read_it 0 (codes "null"))
    (report (counts 0 1 ∷ []) (register (codes "a") (reads 0 1 ∷ reads 5 1 ∷ []) ∷ []) ((0 ∷ []) ∷ []))
    ≡ Rejected (EntryOfNoRequest (Register (codes "a")) 1)
unfolding all
of_nobody = refl

backwards : verdict hit_page nothing_stored (hit_answered (codes "1"))
    (report (counts 0 2 ∷ []) (register (codes "hits") (writes 0 2 1 ∷ reads 0 1 ∷ []) ∷ []) ((0 ∷ []) ∷ []))
    ≡ Rejected (EntryOutOfOrder (Register (codes "hits")) 1)
unfolding all
backwards = refl

never_issued : verdict hit_page nothing_stored (hit_answered (codes "1"))
    (report (counts 0 3 ∷ []) (register (codes "hits") (reads 0 1 ∷ writes 0 2 1 ∷ writes 0 3 9 ∷ []) ∷ [])
    ((0 ∷ []) ∷ []))
    ≡ Rejected (FewerOperations 0 3)
unfolding all
never_issued = refl

abbrev grouped : List (List ℕ) → Report
grouped groups = report (counts 0 0 ∷ counts 1 0 ∷ counts 2 0 ∷ []) [] groups

stranger : verdict sum_page nothing_stored sums (grouped ((0 ∷ 1 ∷ []) ∷ (2 ∷ 7 ∷ []) ∷ [])) ≡ Rejected (MemberOfNoRequest 7)
unfolding all
stranger = refl

grouped_twice : verdict sum_page nothing_stored sums (grouped ((0 ∷ 1 ∷ []) ∷ (2 ∷ 1 ∷ []) ∷ [])) ≡ Rejected (SecondMember 1)
unfolding all
grouped_twice = refl

-- ---- what groups cost

two_hits_cost : cost_of_all hit_page nothing_stored hits (hits_in ((0 ∷ []) ∷ (1 ∷ []) ∷ [])) ((0 ∷ []) ∷ (1 ∷ []) ∷ []) ≡ 36
unfolding all
two_hits_cost = refl

-- 17 steps that both share, and 2 operations of each
hits_at_once_cost : cost_of_all hit_page nothing_stored
    (Asked 0 hit ∷ Asked 1 hit ∷ Answered 0 (says (codes "1")) ∷ Answered 1 (says (codes "1")) ∷ []) at_once
    ((0 ∷ 1 ∷ []) ∷ []) ≡ 21
unfolding all
hits_at_once_cost = refl

clock_stands_cost : cost_of_all clock_page nothing_stored
    (Asked 0 (get (codes "/t")) ∷ Asked 1 (get (codes "/t")) ∷ Answered 0 (says (codes "5")) ∷ Answered 1
    (says (codes "5")) ∷ []) (two_clocks 5 5) ((0 ∷ 1 ∷ []) ∷ []) ≡ 3
unfolding all
clock_stands_cost = refl

-- two values that differ are printed by a step of each
clock_goes_on_cost : cost_of_all clock_page nothing_stored
    (Asked 0 (get (codes "/t")) ∷ Asked 1 (get (codes "/t")) ∷ Answered 0 (says (codes "5")) ∷ Answered 1
    (says (codes "6")) ∷ []) (two_clocks 5 6) ((0 ∷ 1 ∷ []) ∷ []) ≡ 4
unfolding all
clock_goes_on_cost = refl

in_two_groups_cost : cost_of_all two_calls_page nothing_stored calls
    (report (counts 0 0 ∷ counts 1 0 ∷ []) [] ((0 ∷ []) ∷ (1 ∷ []) ∷ [])) ((0 ∷ []) ∷ (1 ∷ []) ∷ []) ≡ 23
unfolding all
in_two_groups_cost = refl
