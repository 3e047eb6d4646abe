-- What is wrong with an entry, as the code keeps it.
use Rattle.std.specs.Prelude.{ℕ, List, Option}
use Rattle.basis.specs.Lists.{or_else}
use Rattle.script_tree.specs.Objects.{Objects}
use Rattle.script_tree.specs.Programs.{Program}
use Rattle.script_tree.specs.declared.operation.Object.{Object}
use Rattle.period.specs.declared.trace.TraceEvent.{TraceEvent}
use Rattle.period.specs.declared.report.Report.{Report}
use Rattle.audit_meaning.specs.Lists.{last, answer_if}
use Rattle.audit_meaning.specs.LogFaults.{is_foreign, is_of_no_request, is_uncounted, is_second, is_out_of_order, is_implausible}
use Rattle.audit_meaning.specs.Spots.{Spot}
use Rattle.audit_meaning.specs.declared.reason.Reason.{Reason}
use Rattle.audit_meaning.specs.declared.reason.Reason.TheVariants.{ForeignEntry, EntryOfNoRequest, UncountedEntry, SecondEntry, EntryOutOfOrder, ImplausibleEntry}
use Rattle.log_checker.specs.declared.entry_fault.EntryFault.{EntryFault}
use Rattle.log_checker.specs.declared.entry_fault.EntryFault.TheVariants.{Foreign, OfNoRequest, Uncounted, Second, OutOfOrder, Implausible}

-- the reason that a fault is, of the entry at a position of an object's log
abbrev pub reason_at : EntryFault → Object → ℕ → Reason
reason_at Foreign object position = ForeignEntry object position
reason_at OfNoRequest object position = EntryOfNoRequest object position
reason_at Uncounted object position = UncountedEntry object position
reason_at Second object position = SecondEntry object position
reason_at OutOfOrder object position = EntryOutOfOrder object position
reason_at Implausible object position = ImplausibleEntry object position

-- the first that is wrong with an entry, behind others
abbrev pub first_wrong : Program → Objects → List TraceEvent → Report → List Spot → Spot → Option EntryFault
first_wrong program start trace report earlier spot =
    or_else (answer_if (is_foreign program spot) Foreign)
    (or_else (answer_if (is_of_no_request trace spot) OfNoRequest)
    (or_else (answer_if (is_uncounted report spot.entry) Uncounted)
    (or_else (answer_if (is_second earlier spot.entry) Second)
    (or_else (answer_if (is_out_of_order (last spot.past) spot.entry) OutOfOrder)
    (answer_if (is_implausible start spot) Implausible)))))
