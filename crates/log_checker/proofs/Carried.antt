-- A fault that a call gives is handed on, and faults one after the other.
use Rattle.std.proofs.Common.{◌≡◌, ◌∙◌, Option, Some, None, Result, Ok, Err, ap, sym, subst}
use Rattle.std.specs.Result.{IsErrAnd}
use Rattle.basis.specs.Lists.{or_else}
use Rattle.basis.specs.UnlessMemory.{UnlessMemory}
use Rattle.basis.specs.declared.or_memory.OrMemory.{OrMemory}
use Rattle.basis.specs.declared.or_memory.OrMemory.TheVariants.{Memory, Other}
use Rattle.script_tree.specs.Objects.{Objects}
use Rattle.script_tree.specs.Programs.{Program}
use Rattle.period.specs.declared.trace.TraceEvent.{TraceEvent}
use Rattle.std.proofs.Common.{List}
use Rattle.period.specs.declared.report.Report.{Report}
use Rattle.audit_meaning.specs.LogFaults.{second_log, second_count, count_of_no_request, request_without_count, faulty_entry, operation_without_entry, log_fault}
use Rattle.audit_meaning.specs.declared.reason.Reason.{Reason}
use Rattle.log_checker.specs.Faults.{IsFaultIfAny}

pub carried : {B : Type 0} (err : Reason → Type 0) (ok' : B → Type 0) (err' : Reason → Type 0) (d : OrMemory Reason) (r : Result B (OrMemory Reason))
    → IsErrAnd r (λ e. e ≡ d)
    → UnlessMemory {A = Unit {0}} (λ x. Unit {0}) err (Err d) → ((e : Reason) → err e → err' e) → UnlessMemory ok' err' r
carried err ok' err' d (Ok x) is h k = absurd is
carried {B} err ok' err' d (Err e) is h k = subst (λ (x : OrMemory Reason). UnlessMemory {A = B} ok' err' (Err x)) (sym is) (go d h)
  where
    go : (d : OrMemory Reason) → UnlessMemory {A = Unit {0}} (λ x. Unit {0}) err (Err d) → UnlessMemory {A = B} ok' err' (Err d)
    go Memory h = tt
    go (Other e) h = k e h

pub here : {A : Type 0} (a b : Option A) (e : A) → a ≡ Some e → or_else a b ≡ Some e
unfolding or_else
here a b e is = ap (λ o. or_else o b) is

pub later : {A : Type 0} (a b o : Option A) → a ≡ None → b ≡ o → or_else a b ≡ o
unfolding or_else
later a b o none is = ap (λ x. or_else x b) none ∙ is

-- the faults of counts and logs, in their order
pub in_order : (program : Program) (start : Objects) (trace : List TraceEvent) (report : Report) (o : Option Reason)
    → or_else (second_log report) (or_else (second_count report)
    (or_else (count_of_no_request trace report)
    (or_else (request_without_count trace report) (or_else (faulty_entry program start trace report) (operation_without_entry trace report))))) ≡ o
    → log_fault program start trace report ≡ o
unfolding log_fault
in_order program start trace report o h = h

-- what a call gives is handed on whole
pub handed : {B : Type 0} (f g : Option Reason) (r : Result B (OrMemory Reason)) → IsFaultIfAny f r → ((o : Option Reason) → f ≡ o → g ≡ o) → IsFaultIfAny g r
handed f g (Ok x) h k = k None h
handed f g (Err Memory) h k = tt
handed f g (Err (Other e)) h k = k (Some e) h
