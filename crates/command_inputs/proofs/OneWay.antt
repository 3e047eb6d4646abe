-- A file says one thing to a command.
use Rattle.std.proofs.Common.{◌≡◌, ◌∙◌, ℕ, List, Some, None, Result, Ok, Err, inl, inr, refl, ap, sym, subst, arith}
use Rattle.script_tree.specs.Objects.{Objects}
use Rattle.script_tree.specs.Programs.{Program}
use Rattle.period.specs.Traces.{IsBalanced}
use Rattle.script_tree.specs.declared.operation.Object.{Object}
use Rattle.period.specs.declared.schedule.Moment.{Moment}
use Rattle.period.specs.declared.trace.TraceEvent.{TraceEvent}
use Rattle.period.specs.declared.report.Report.{Report}
use Rattle.report_format.specs.Reports.{report_format, records_of}
use Rattle.schedule_format.specs.Moments.{schedule_format}
use Rattle.state_file.specs.States.{IsReadOneWay as StatesAreReadOneWay}
use Rattle.state_file.specs.Stored.{given_objects}
use Rattle.state_file.specs.declared.fault.StateFault.{StateFault}
use Rattle.trace_format.specs.Balance.{IsFirstFault, IsOneFault}
use Rattle.trace_format.specs.Events.{trace_format}
use Rattle.wire.specs.Files.{IsExact}
use Rattle.workload.specs.Files.{AreRequests, HasRequestsFault, AreTurns, HasTurnsFault, IsReadOneWay as ListsAreReadOneWay}
use Rattle.workload.specs.declared.fault.WorkFault.{WorkFault}
use Rattle.command_inputs.specs.Inputs.{Input, IsInput, AreAtFault}
use Rattle.command_inputs.specs.OneWay.{IsReadOneWay}
use Rattle.command_inputs.specs.Program.{program_input}
use Rattle.command_inputs.specs.Report.{report_input, SpellsReport}
use Rattle.command_inputs.specs.Requests.{requests_input, IsRequestsFault}
use Rattle.command_inputs.specs.Schedule.{schedule_input, SpellsSchedule}
use Rattle.command_inputs.specs.State.{state_input, SpellsObjects, IsStateFault}
use Rattle.command_inputs.specs.Trace.{trace_input, SpellsTrace, HasTraceFault, IsTraceFault}
use Rattle.command_inputs.specs.Turns.{turns_input, IsTurnsFault}
use Rattle.command_inputs.specs.declared.fault.InputFault.{InputFault}
use Rattle.command_inputs.specs.declared.fault.InputFault.TheVariants.{Absent, TooLong, Syntax, Check, State, Requests, Turns, Trace}
use Rattle.command_inputs.specs.declared.fault.TraceFault.{TraceFault}
use Rattle.command_inputs.specs.declared.fault.TraceFault.TheVariants.{Unreadable, Unbalanced}
use Rattle.command_inputs.proofs.OneProgram.{one_program, one_fault, program_or_fault}
use Rattle.command_inputs.proofs.OneReport.{one_report}

-- ---- any input

-- its bytes spell one thing, have one fault, and not both
record IsOneThing {A : Type 0} (input : Input A) : Type 0 where
  pub things : (bytes : List ℕ) (x y : A) → input.spells bytes x → input.spells bytes y → x ≡ y
  pub faults : (bytes : List ℕ) (f g : InputFault) → input.has_fault bytes f → input.has_fault bytes g → f ≡ g
  pub apart : (bytes : List ℕ) (x : A) (f : InputFault) → input.spells bytes x → input.has_fault bytes f → ⊥

at_one_fault : {A : Type 0} (input : Input A) → IsOneThing input → (bytes : List ℕ) (f g : InputFault)
    → AreAtFault input bytes f → AreAtFault input bytes g → f ≡ g
at_one_fault input one bytes f g (inl p) (inl q) = p.1 ∙ sym q.1
at_one_fault input one bytes f g (inl p) (inr q) = absurd (omega (arith, p.0, q.0))
at_one_fault input one bytes f g (inr p) (inl q) = absurd (omega (arith, p.0, q.0))
at_one_fault input one bytes f g (inr p) (inr q) = one.faults bytes f g p.1 q.1

not_at_fault : {A : Type 0} (input : Input A) → IsOneThing input → (bytes : List ℕ) (x : A) (f : InputFault)
    → IsInput input (Some bytes) (Ok x) → AreAtFault input bytes f → ⊥
not_at_fault input one bytes x f h (inl q) = absurd (omega (arith, h.0, q.0))
not_at_fault input one bytes x f h (inr q) = one.apart bytes x f h.1 q.1

read_one_way : {A : Type 0} (input : Input A) → IsOneThing input → IsReadOneWay input
read_one_way input one None (Ok x) s h k = absurd h
read_one_way input one None (Err f) (Ok y) h k = absurd k
read_one_way input one None (Err f) (Err g) h k = ap (λ e. Err e) (h ∙ sym k)
read_one_way input one (Some bytes) (Ok x) (Ok y) h k = ap (λ z. Ok z) (one.things bytes x y h.1 k.1)
read_one_way input one (Some bytes) (Ok x) (Err g) h k = absurd (not_at_fault input one bytes x g h k)
read_one_way input one (Some bytes) (Err f) (Ok y) h k = absurd (not_at_fault input one bytes y f k h)
read_one_way input one (Some bytes) (Err f) (Err g) h k = ap (λ e. Err e) (at_one_fault input one bytes f g h k)

-- ---- programs

pub programs : (most : ℕ) → IsReadOneWay (program_input most)
programs most = read_one_way (program_input most) (record { things = one_program; faults = one_fault; apart = program_or_fault })

-- ---- states

state_fault : (program : Program) (bytes : List ℕ) (f : InputFault) → IsStateFault program bytes f
    → (s : StateFault) × (f ≡ State s) × IsStateFault program bytes (State s)
state_fault program bytes (Absent role) h = absurd h
state_fault program bytes (TooLong role) h = absurd h
state_fault program bytes (Syntax fault) h = absurd h
state_fault program bytes (Check fault) h = absurd h
state_fault program bytes (State fault) h = (fault, refl, h)
state_fault program bytes (Requests fault) h = absurd h
state_fault program bytes (Turns fault) h = absurd h
state_fault program bytes (Trace fault) h = absurd h

one_start : StatesAreReadOneWay → (program : Program) (bytes : List ℕ) (x y : Objects) → SpellsObjects program bytes x → SpellsObjects program bytes y → x ≡ y
one_start one program bytes x y p q =
    let given = one.states program bytes p.given q.given p.spelled q.spelled in
    let each : (o : Object) → x o ≡ y o = λ o. p.held o ∙ ap (λ g. given_objects program g o) given ∙ sym (q.held o) in
    λ i o. each o i

pub states : StatesAreReadOneWay → (program : Program) (most : ℕ) → IsReadOneWay (state_input program most)
states one program most = read_one_way (state_input program most) (record {
  things = one_start one program;
  faults = λ bytes f g h k.
      let p = state_fault program bytes f h in
      let q = state_fault program bytes g k in
      p.1 ∙ ap State (one.faults program bytes p.0 q.0 p.2 q.2) ∙ sym q.1;
  apart = λ bytes x f h k. let q = state_fault program bytes f k in one.apart program bytes h.given q.0 h.spelled q.2;
})

-- ---- requests and turns

requests_fault : (bytes : List ℕ) (f : InputFault) → IsRequestsFault bytes f → (s : WorkFault) × (f ≡ Requests s) × HasRequestsFault bytes s
requests_fault bytes (Absent role) h = absurd h
requests_fault bytes (TooLong role) h = absurd h
requests_fault bytes (Syntax fault) h = absurd h
requests_fault bytes (Check fault) h = absurd h
requests_fault bytes (State fault) h = absurd h
requests_fault bytes (Requests fault) h = (fault, refl, h)
requests_fault bytes (Turns fault) h = absurd h
requests_fault bytes (Trace fault) h = absurd h

pub requests : ListsAreReadOneWay AreRequests HasRequestsFault → (most : ℕ) → IsReadOneWay (requests_input most)
requests one most = read_one_way (requests_input most) (record {
  things = one.lists;
  faults = λ bytes f g h k.
      let p = requests_fault bytes f h in
      let q = requests_fault bytes g k in
      p.1 ∙ ap Requests (one.faults bytes p.0 q.0 p.2 q.2) ∙ sym q.1;
  apart = λ bytes x f h k. let q = requests_fault bytes f k in one.apart bytes x q.0 h q.2;
})

turns_fault : (bytes : List ℕ) (f : InputFault) → IsTurnsFault bytes f → (s : WorkFault) × (f ≡ Turns s) × HasTurnsFault bytes s
turns_fault bytes (Absent role) h = absurd h
turns_fault bytes (TooLong role) h = absurd h
turns_fault bytes (Syntax fault) h = absurd h
turns_fault bytes (Check fault) h = absurd h
turns_fault bytes (State fault) h = absurd h
turns_fault bytes (Requests fault) h = absurd h
turns_fault bytes (Turns fault) h = (fault, refl, h)
turns_fault bytes (Trace fault) h = absurd h

pub turns : ListsAreReadOneWay AreTurns HasTurnsFault → (most : ℕ) → IsReadOneWay (turns_input most)
turns one most = read_one_way (turns_input most) (record {
  things = one.lists;
  faults = λ bytes f g h k.
      let p = turns_fault bytes f h in
      let q = turns_fault bytes g k in
      p.1 ∙ ap Turns (one.faults bytes p.0 q.0 p.2 q.2) ∙ sym q.1;
  apart = λ bytes x f h k. let q = turns_fault bytes f k in one.apart bytes x q.0 h q.2;
})

-- ---- traces

trace_fault : (bytes : List ℕ) (f : InputFault) → IsTraceFault bytes f → (t : TraceFault) × (f ≡ Trace t) × HasTraceFault bytes t
trace_fault bytes (Absent role) h = absurd h
trace_fault bytes (TooLong role) h = absurd h
trace_fault bytes (Syntax fault) h = absurd h
trace_fault bytes (Check fault) h = absurd h
trace_fault bytes (State fault) h = absurd h
trace_fault bytes (Requests fault) h = absurd h
trace_fault bytes (Turns fault) h = absurd h
trace_fault bytes (Trace fault) h = (fault, refl, h)

same_rid : (a b : ℕ) → Some a ≡ Some b → a ≡ b
same_rid a b e = cc

one_trace_fault : IsExact trace_format → IsOneFault → (bytes : List ℕ) (f g : TraceFault) → HasTraceFault bytes f → HasTraceFault bytes g → f ≡ g
one_trace_fault exact one bytes (Unreadable a) (Unreadable b) p q = ap Unreadable (exact.one_fault bytes a b p q)
one_trace_fault exact one bytes (Unreadable a) (Unbalanced s) p q = absurd (exact.no_reading_at_fault bytes a q.0 p q.1)
one_trace_fault exact one bytes (Unbalanced r) (Unreadable b) p q = absurd (exact.no_reading_at_fault bytes b p.0 q p.1)
one_trace_fault exact one bytes (Unbalanced r) (Unbalanced s) p q =
    let same = exact.one_reading bytes q.0 p.0 q.1 p.1 in
    ap Unbalanced (same_rid r s (one p.0 (Some r) (Some s) p.2 (subst (λ t. IsFirstFault t (Some s)) same q.2)))

trace_or_fault : IsExact trace_format → (bytes : List ℕ) (x : List TraceEvent) (f : TraceFault) → SpellsTrace bytes x → HasTraceFault bytes f → ⊥
trace_or_fault exact bytes x (Unreadable a) p q = exact.no_reading_at_fault bytes a x q p.spelled
trace_or_fault exact bytes x (Unbalanced r) p q =
    q.2.0 (subst (λ t. IsBalanced t) (exact.one_reading bytes x q.0 p.spelled q.1) p.balanced)

pub traces : IsExact trace_format → IsOneFault → (most : ℕ) → IsReadOneWay (trace_input most)
traces exact one most = read_one_way (trace_input most) (record {
  things = λ bytes x y p q. exact.one_reading bytes x y p.spelled q.spelled;
  faults = λ bytes f g h k.
      let p = trace_fault bytes f h in
      let q = trace_fault bytes g k in
      p.1 ∙ ap Trace (one_trace_fault exact one bytes p.0 q.0 p.2 q.2) ∙ sym q.1;
  apart = λ bytes x f h k. let q = trace_fault bytes f k in trace_or_fault exact bytes x q.0 h q.2;
})

-- ---- reports and schedules, which have no fault

report_read : IsExact report_format → (bytes : List ℕ) (x y : Result Report ℕ) → SpellsReport bytes x → SpellsReport bytes y → x ≡ y
report_read exact bytes (Ok x) (Ok y) p q = ap (λ r. Ok r) (one_report x y (exact.one_reading bytes (records_of x) (records_of y) p q))
report_read exact bytes (Ok x) (Err b) p q = absurd (exact.no_reading_at_fault bytes b (records_of x) q p)
report_read exact bytes (Err a) (Ok y) p q = absurd (exact.no_reading_at_fault bytes a (records_of y) p q)
report_read exact bytes (Err a) (Err b) p q = ap (λ at. Err at) (exact.one_fault bytes a b p q)

pub reports : IsExact report_format → (most : ℕ) → IsReadOneWay (report_input most)
reports exact most = read_one_way (report_input most) (record { things = report_read exact; faults = λ bytes f g h k. absurd h; apart = λ bytes x f h k. k })

schedule_read : IsExact schedule_format → (bytes : List ℕ) (x y : Result (List Moment) ℕ) → SpellsSchedule bytes x → SpellsSchedule bytes y → x ≡ y
schedule_read exact bytes (Ok x) (Ok y) p q = ap (λ s. Ok s) (exact.one_reading bytes x y p q)
schedule_read exact bytes (Ok x) (Err b) p q = absurd (exact.no_reading_at_fault bytes b x q p)
schedule_read exact bytes (Err a) (Ok y) p q = absurd (exact.no_reading_at_fault bytes a y p q)
schedule_read exact bytes (Err a) (Err b) p q = ap (λ at. Err at) (exact.one_fault bytes a b p q)

pub schedules : IsExact schedule_format → (most : ℕ) → IsReadOneWay (schedule_input most)
schedules exact most = read_one_way (schedule_input most)
    (record { things = schedule_read exact; faults = λ bytes f g h k. absurd h; apart = λ bytes x f h k. k })
