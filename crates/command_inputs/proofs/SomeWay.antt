-- A file says something to a command.
use Rattle.std.proofs.Common.{◌≡◌, ℕ, ◌≤◌, List, [], ◌∷◌, length, map, Bool, true, false, true≢false, Option, Some, None, Ok, Err, ◌⊎◌, inl, inr, refl, ap, sym, subst, arith}
use Rattle.std.specs.Prelude.{pos, negsuc, ℤ, nat_lt, IsUtf8}
use Rattle.std.proofs.lemmas.Bool.{cases_lt}
use Rattle.basis.proofs.Booleans.{both-right}
use Rattle.basis.proofs.Options.{none_some}
use Rattle.serde_json.specs.Data as json
use Rattle.serde_json.specs.Read.{read}
use Rattle.json_texts.specs.Reading.{IsJson, IsNoJson, IsJsonOf, HasOtherShape}
use Rattle.script_tree.specs.Programs.{Program}
use Rattle.script_tree.specs.Requests.{Request}
use Rattle.period.specs.declared.report.Report.{Report}
use Rattle.period.specs.declared.trace.TraceEvent.{TraceEvent}
use Rattle.report_format.specs.Reports.{report_format}
use Rattle.report_format.specs.declared.format.ReportRecord.{ReportRecord}
use Rattle.report_format.specs.RecordKinds.{counts_in, logs_in, groups_in}
use Rattle.report_format.proofs.RecordOrder.{by_kinds}
use Rattle.schedule_format.specs.Moments.{schedule_format}
use Rattle.state_file.specs.Faults.{are_declared, are_within_limits, is_storable}
use Rattle.state_file.specs.Givens.{given_of}
use Rattle.state_file.specs.States.{SpellsState, HasStateFault}
use Rattle.state_file.specs.Stored.{given_objects}
use Rattle.state_file.specs.declared.fault.StateFault.{StateFault}
use Rattle.state_file.specs.declared.fault.StateFault.TheVariants as state
use Rattle.state_file.specs.declared.given.Given.{Given}
use Rattle.trace_format.specs.Balance.{IsFirstFault}
use Rattle.trace_format.specs.Events.{trace_format}
use Rattle.wire.specs.Files.{Spells}
use Rattle.workload.specs.Files.{Spells as SpellsList, HasFault}
use Rattle.workload.specs.Jobs.{jobs_of, are_within_limits as are_jobs_within_limits}
use Rattle.workload.specs.Seats.{numbers_of, are_seats}
use Rattle.workload.specs.declared.fault.WorkFault.{WorkFault}
use Rattle.workload.specs.declared.limits.TheConstants.{SEATS}
use Rattle.workload.specs.declared.fault.WorkFault.TheVariants as work
use Rattle.command_inputs.specs.Inputs.{Input}
use Rattle.command_inputs.specs.Program.{program_input}
use Rattle.command_inputs.specs.Report.{report_input}
use Rattle.command_inputs.specs.Requests.{requests_input}
use Rattle.command_inputs.specs.Schedule.{schedule_input}
use Rattle.command_inputs.specs.SomeWay.{IsReadSomeWay}
use Rattle.command_inputs.specs.State.{state_input}
use Rattle.command_inputs.specs.Trace.{trace_input}
use Rattle.command_inputs.specs.Turns.{turns_input}
use Rattle.command_inputs.specs.declared.fault.InputFault.{InputFault}
use Rattle.command_inputs.specs.declared.fault.InputFault.TheVariants.{Absent, TooLong, State, Requests, Turns, Trace}
use Rattle.command_inputs.specs.declared.fault.TraceFault.TheVariants.{Unreadable, Unbalanced}
use Rattle.command_inputs.proofs.Cases.{CantFail, is_so, or_not, so_then}
use Rattle.command_inputs.proofs.SomeFile.{SpellsOrNot, spells_or_not}
use Rattle.command_inputs.proofs.SomeProgram.{program_or_not}
use Rattle.command_inputs.proofs.SomeTrace.{judged}

-- ---- any input

-- what bytes spell, or their fault
abbrev ThingOrFault : {A : Type 0} → Input A → List ℕ → Type 0
ThingOrFault {A} input bytes = ((x : A) × input.spells bytes x) ⊎ ((fault : InputFault) × input.has_fault bytes fault)

-- where all bytes spell a thing or have a fault, files do
read_some_way : {A : Type 0} (input : Input A) → ((bytes : List ℕ) → CantFail (ThingOrFault input bytes)) → IsReadSomeWay input
read_some_way input each None none = none (Err (Absent input.role)) refl
read_some_way input each (Some bytes) none = elim (cases_lt input.most (length bytes)) [
  | inl longer ↦ none (Err (TooLong input.role)) (inl (longer, refl))
  | inr within ↦ each bytes (by (omega (arith, within)))
]
  where
    by : length bytes ≤ input.most → ThingOrFault input bytes → ⊥
    by within (inl (x, spells)) = none (Ok x) (within, spells)
    by within (inr (fault, has)) = none (Err fault) (inr (within, has))

pub programs : (most : ℕ) → IsReadSomeWay (program_input most)
programs most = read_some_way (program_input most) (λ bytes. is_so (program_or_not bytes))

-- ---- files of JSON

-- a tree of the shape, or of another one, or none
abbrev TreeOrNone : {A : Type 0} → (json.Data → Option A) → List ℕ → Type 0
TreeOrNone {A} shape bytes = ((given : A) × IsJsonOf shape bytes given) ⊎ (HasOtherShape shape bytes ⊎ IsNoJson bytes)

json_or_not : {A : Type 0} (shape : json.Data → Option A) (bytes : List ℕ) → CantFail (TreeOrNone shape bytes)
json_or_not {A} shape bytes = so_then (or_not (IsUtf8 bytes)) (λ (cases : IsUtf8 bytes ⊎ (IsUtf8 bytes → ⊥)). by cases)
  where
    shaped : (d : json.Data) → IsJson bytes d → (o : Option A) → shape d ≡ o → TreeOrNone shape bytes
    shaped d is None other = inr (inl (d, is, other))
    shaped d is (Some given) gives = inl (given, (d, is, gives))

    tree : IsUtf8 bytes → (o : Option json.Data) → read bytes ≡ o → TreeOrNone shape bytes
    tree utf8 None none = inr (inr (λ d is. none_some (read bytes) d none is.1))
    tree utf8 (Some d) is = shaped d (utf8, is) (shape d) refl

    by : IsUtf8 bytes ⊎ (IsUtf8 bytes → ⊥) → CantFail (TreeOrNone shape bytes)
    by (inl utf8) = is_so (tree utf8 (read bytes) refl)
    by (inr odd) = is_so (inr (inr (λ d is. odd is.0)))

-- ---- states

abbrev StateOrFault : Program → List ℕ → Type 0
StateOrFault program bytes = ((given : Given) × SpellsState program bytes given) ⊎ ((fault : StateFault) × HasStateFault program bytes fault)

faultless_or_not : (program : Program) (bytes : List ℕ) (given : Given) → IsJsonOf given_of bytes given → StateOrFault program bytes
faultless_or_not program bytes given is =
    by (are_declared program given) (are_within_limits given) (is_storable program given) refl refl refl
  where
    by : (a b c : Bool) → are_declared program given ≡ a → are_within_limits given ≡ b → is_storable program given ≡ c → StateOrFault program bytes
    by false b c p q r = inr (state.Undeclared, (given, is, p))
    by true false c p q r = inr (state.BeyondLimit, (given, is, (p, q)))
    by true true false p q r = inr (state.Unstorable, (given, is, (p, q, r)))
    by true true true p q r = inl (given, (is, record { declared = p; within_limits = q; storable = r }))

pub states : (program : Program) (most : ℕ) → IsReadSomeWay (state_input program most)
states program most = read_some_way (state_input program most) (λ bytes. so_then (json_or_not given_of bytes) (λ cases. is_so (told bytes (by bytes cases))))
  where
    by : (bytes : List ℕ) → TreeOrNone given_of bytes → StateOrFault program bytes
    by bytes (inl (given, is)) = faultless_or_not program bytes given is
    by bytes (inr (inl other)) = inr (state.OtherShape, other)
    by bytes (inr (inr none)) = inr (state.NotJson, none)

    told : (bytes : List ℕ) → StateOrFault program bytes → ThingOrFault (state_input program most) bytes
    told bytes (inl (given, spelled)) =
        inl (given_objects program given, record { given = given; spelled = spelled; held = λ o. refl })
    told bytes (inr (fault, has)) = inr (State fault, has)

-- ---- requests and turns

list_or_not : {A : Type 0} (shape : json.Data → Option A) (is_within : A → Bool) (bytes : List ℕ)
    → CantFail (((given : A) × SpellsList shape is_within bytes given) ⊎ ((fault : WorkFault) × HasFault shape is_within bytes fault))
list_or_not {A} shape is_within bytes = so_then (json_or_not shape bytes) (λ (cases : TreeOrNone shape bytes). is_so (by cases))
  where
    within : (given : A) → IsJsonOf shape bytes given → (b : Bool) → is_within given ≡ b
        → ((given : A) × SpellsList shape is_within bytes given) ⊎ ((fault : WorkFault) × HasFault shape is_within bytes fault)
    within given is true so = inl (given, (is, so))
    within given is false not = inr (work.BeyondLimit, (given, is, not))

    by : TreeOrNone shape bytes → ((given : A) × SpellsList shape is_within bytes given) ⊎ ((fault : WorkFault) × HasFault shape is_within bytes fault)
    by (inl (given, is)) = within given is (is_within given) refl
    by (inr (inl other)) = inr (work.OtherShape, other)
    by (inr (inr none)) = inr (work.NotJson, none)

pub requests : (most : ℕ) → IsReadSomeWay (requests_input most)
requests most = read_some_way (requests_input most)
    (λ bytes. so_then (list_or_not jobs_of are_jobs_within_limits bytes) (λ cases. is_so (by bytes cases)))
  where
    by : (bytes : List ℕ)
        → ((given : List Request) × SpellsList jobs_of are_jobs_within_limits bytes given) ⊎ ((fault : WorkFault) × HasFault jobs_of are_jobs_within_limits bytes fault)
        → ThingOrFault (requests_input most) bytes
    by bytes (inl found) = inl found
    by bytes (inr (fault, has)) = inr (Requests fault, has)

-- seats are natural numbers
seats_are : (numbers : List ℤ) → are_seats numbers ≡ true → (seats : List ℕ) × (map pos seats ≡ numbers)
seats_are [] are = ([], refl)
seats_are (pos n ∷ numbers) are =
    let rest = seats_are numbers (both-right (nat_lt n SEATS) (are_seats numbers) are) in
    (n ∷ rest.0, ap (λ ns. pos n ∷ ns) rest.1)
seats_are (negsuc n ∷ numbers) are = absurd (true≢false (sym are))

pub turns : (most : ℕ) → IsReadSomeWay (turns_input most)
turns most = read_some_way (turns_input most)
    (λ bytes. so_then (list_or_not numbers_of are_seats bytes) (λ cases. is_so (by bytes cases)))
  where
    by : (bytes : List ℕ)
        → ((given : List ℤ) × SpellsList numbers_of are_seats bytes given) ⊎ ((fault : WorkFault) × HasFault numbers_of are_seats bytes fault)
        → ThingOrFault (turns_input most) bytes
    by bytes (inl (given, spelled)) =
        let seats = seats_are given spelled.1 in
        inl (seats.0, subst (SpellsList numbers_of are_seats bytes) (sym seats.1) spelled)
    by bytes (inr (fault, has)) = inr (Turns fault, has)

-- ---- files of records

pub traces : (most : ℕ) → IsReadSomeWay (trace_input most)
traces most = read_some_way (trace_input most) (λ bytes. so_then (spells_or_not trace_format bytes) (λ cases. is_so (by bytes cases)))
  where
    verdict : (bytes : List ℕ) (trace : List TraceEvent) → Spells trace_format bytes trace → (o : Option ℕ) → IsFirstFault trace o
        → ThingOrFault (trace_input most) bytes
    verdict bytes trace spelled None balanced = inl (trace, record { spelled = spelled; balanced = balanced })
    verdict bytes trace spelled (Some rid) fault = inr (Trace (Unbalanced rid), (trace, spelled, fault))

    by : (bytes : List ℕ) → SpellsOrNot trace_format bytes → ThingOrFault (trace_input most) bytes
    by bytes (inl (trace, spelled)) = let o = judged trace in verdict bytes trace spelled o.0 o.1
    by bytes (inr (at, fault)) = inr (Trace (Unreadable at), fault)

-- the report of records that may stand so
abbrev report_of : List ReportRecord → Report
report_of rs = record { counts = counts_in rs; logs = logs_in rs; groups = groups_in rs }

pub reports : (most : ℕ) → IsReadSomeWay (report_input most)
reports most = read_some_way (report_input most) (λ bytes. so_then (spells_or_not report_format bytes) (λ cases. is_so (by bytes cases)))
  where
    by : (bytes : List ℕ) → SpellsOrNot report_format bytes → ThingOrFault (report_input most) bytes
    by bytes (inl (rs, spelled)) =
        inl (Ok (report_of rs), subst (Spells report_format bytes) (sym (by_kinds [] rs spelled.allowed)) spelled)
    by bytes (inr (at, fault)) = inl (Err at, fault)

pub schedules : (most : ℕ) → IsReadSomeWay (schedule_input most)
schedules most = read_some_way (schedule_input most) (λ bytes. so_then (spells_or_not schedule_format bytes) (λ cases. is_so (by bytes cases)))
  where
    by : (bytes : List ℕ) → SpellsOrNot schedule_format bytes → ThingOrFault (schedule_input most) bytes
    by bytes (inl (schedule, spelled)) = inl (Ok schedule, spelled)
    by bytes (inr (at, fault)) = inl (Err at, fault)
