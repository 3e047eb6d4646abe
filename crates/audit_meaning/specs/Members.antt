-- How a request runs against a report.
use Rattle.std.specs.Prelude.{ℕ, zero, suc, Bool, true, false, ◌&&◌, List, [], ◌∷◌, ◌++◌, map, Option, Some, None, option_map, nat_eq, if◌then◌else◌}
use Rattle.script_tree.specs.Datum.{Datum, null}
use Rattle.script_tree.specs.Declarations.{page_in}
use Rattle.script_tree.specs.Faults.{fault_number}
use Rattle.script_tree.specs.Objects.{Objects, acted, is_same}
use Rattle.script_tree.specs.Programs.{Program}
use Rattle.script_tree.specs.Requests.{Request}
use Rattle.script_tree.specs.declared.operation.Op.{Op}
use Rattle.script_tree.specs.declared.path.End.{End}
use Rattle.script_tree.specs.declared.path.End.TheVariants.{Normal, Fault, AnswerFault}
use Rattle.period.specs.declared.report.Report.{Report}
use Rattle.script_meaning.specs.Conduct.{conduct, Ending, Wants, Ends, Undefined}
use Rattle.script_meaning.specs.Replay.{ending_of}
use Rattle.script_meaning.specs.declared.run.Mark.{Mark}
use Rattle.script_meaning.specs.declared.run.Mark.TheVariants.{Decided, Issued}
use Rattle.script_tree.specs.Paths.{same_page, same_decision}
use Rattle.script_tree.specs.Alike.{same_act}
use Rattle.audit_meaning.specs.Spots.{Spot, spot_of, count_of}
use Rattle.period.specs.LeftBy.{left_by}

-- ---- answers

-- an entry is answered on what the entries before it leave
abbrev pub answer_at : Objects → Option Spot → Datum
answer_at start None = null
answer_at start (Some spot) = (acted spot.entry.act spot.entry.choice (left_by spot.past (start spot.object))).1

-- what a report tells a request: the answers to its first k operations
abbrev pub told : Report → Objects → ℕ → ℕ → List Datum
told report start r zero = []
told report start r (suc k) = told report start r k ++ answer_at start (spot_of report r (suc k)) ∷ []

-- ---- operations

-- the entry is this operation's
abbrev pub is_entry_of : Op → Option Spot → Bool
is_entry_of op None = false
is_entry_of op (Some spot) = is_same spot.object op.object && same_act spot.entry.act op.act

-- an operation is wanted, and the entry is its
abbrev pub wants_as : Ending → Option Spot → Bool
wants_as (Wants op) spot = is_entry_of op spot
wants_as (Ends response path) spot = false
wants_as Undefined spot = false

-- After k answers the request wants the operation that the report has next.
abbrev pub is_good : Program → Objects → Report → ℕ → Request → ℕ → Bool
is_good program start report r request k = wants_as (ending_of program request (told report start r k)) (spot_of report r (suc k))

-- how many are good, one after the other from k on, of n at most
abbrev pub good_from : (ℕ → Bool) → ℕ → ℕ → ℕ
good_from good k zero = k
good_from good k (suc n) = if good k then good_from good (suc k) n else k

-- how many operations are good until one is bad or the run ends
abbrev pub performed : Program → Objects → Report → ℕ → Request → ℕ
performed program start report r request = good_from (is_good program start report r request) 0 (count_of report r)

-- ---- marks

-- what a run leaves at each place: a decision, a good or a bad operation, and at its end the steps spent and 0 or the fault
pub data Sign : Type 0 where
  decision : Bool → Sign
  operation : Sign
  bad : Sign
  ended : ℕ → ℕ → Sign

-- the same with the request's page
pub record MemberMark : Type 0 where
  pub page : Option ℕ
  pub sign : Sign

-- the number of an end's fault, and 0 of an end without
abbrev pub fault_in : End → ℕ
fault_in Normal = 0
fault_in (Fault f) = fault_number f
fault_in AnswerFault = 5

-- what is left of a run's trail
abbrev pub sign_of : Mark → Sign
sign_of (Decided b) = decision b
sign_of (Issued op) = operation

-- where the run stops; one with more answers than operations is as bad as a bad operation
abbrev pub last_sign : Ending → Sign
last_sign (Wants op) = bad
last_sign (Ends response path) = ended path.steps (fault_in path.end)
last_sign Undefined = bad

-- the decisions and the answered operations of a run
abbrev pub trail_of : Program → Request → List Datum → List Mark
trail_of program request answers = (conduct program request answers).trail

-- what a request leaves, in the order of its run
unfoldable pub signs : Program → Objects → Report → ℕ → Request → List Sign
signs program start report r request =
    let answers = told report start r (performed program start report r request) in
    map sign_of (trail_of program request answers) ++ last_sign (ending_of program request answers) ∷ []

-- the number of a request's page
abbrev pub page_number : Program → Request → Option ℕ
page_number program request = option_map (λ page. page.number) (page_in program request.path)

-- the same as marks
unfoldable pub marks_of : Program → Objects → Report → ℕ → Request → List MemberMark
marks_of program start report r request = map (λ s. record { page = page_number program request; sign = s }) (signs program start report r request)

-- ---- equal marks

-- signs; operations at one place count as one
abbrev pub same_sign : Sign → Sign → Bool
same_sign (decision a) (decision b) = same_decision a b
same_sign operation operation = true
same_sign bad bad = true
same_sign (ended a b) (ended c d) = nat_eq a c && nat_eq b d
same_sign (decision a) s = false
same_sign operation s = false
same_sign bad s = false
same_sign (ended a b) s = false

-- marks, where there are any
abbrev pub same_mark : Option MemberMark → Option MemberMark → Bool
same_mark None None = true
same_mark (Some a) (Some b) = same_page a.page b.page && same_sign a.sign b.sign
same_mark None (Some b) = false
same_mark (Some a) None = false

-- the mark of a bad operation
abbrev pub is_bad : Option MemberMark → Bool
is_bad None = false
is_bad (Some m) = elim m.sign [ decision b ↦ false | operation ↦ false | bad ↦ true | ended a b ↦ false ]
