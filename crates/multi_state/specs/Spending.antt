-- What an account spends and notes.
use Rattle.std.specs.Prelude.{◌≡◌, ◌<◌, ◌+◌, ◌∷◌, [], ◌++◌, ℕ, Bool, List, Option, true, false, Result, Ok}
use Rattle.script_tree.specs.Datum.{Datum, bool}
use Rattle.script_tree.specs.declared.fault.ScriptFault.TheVariants.{OutOfSteps}
use Rattle.script_tree.specs.declared.operation.Op.{Op}
use Rattle.script_meaning.specs.Conduct.{start}
use Rattle.script_meaning.specs.Costs.{keeping}
use Rattle.script_meaning.specs.Operands.{status_in}
use Rattle.script_meaning.specs.Evaluate.{Flow}
use Rattle.script_meaning.specs.Run.{Cost, Run, charge, goes, stops, give, ◌>>=◌, ◌>>◌}
use Rattle.script_meaning.specs.declared.run.Mark.TheVariants.{Issued as issued}
use Rattle.script_meaning.specs.declared.run.Stop.TheVariants.{Fault as fault}
use Rattle.script_nodes.specs.NodeLaws.{noted, print_text, set_status_to}
use Rattle.group_laws.specs.Steady.{IsSteady}
use Rattle.multivalue.specs.Many.{Many, member_value}
use Rattle.multivalue.specs.declared.apart.Apart.{Apart}
use Rattle.multi_state.specs.AllDo.{AllGo, Gives}
use Rattle.multi_state.specs.Parting.{Parts}
use Rattle.multi_state.specs.Progress.{Charges, Unseen, progress_at}
use Rattle.multi_state.specs.declared.account.Account.{Account}

-- A step of each member is spent on what it takes, or there is none left.
abbrev pub Spends : Account → Account → Bool → Type 0
Spends old new true =
    (new.steps ≡ old.steps + 1) × ((c : ℕ → Cost) (cs : Charges) (i : ℕ) (u : Unseen)
    → charge (c i) (progress_at old cs i u) ≡ goes tt (progress_at new (c ∷ cs) i u))
Spends old new false = (c : ℕ → Cost) (cs : Charges) (i : ℕ) (u : Unseen)
    → charge (c i) (progress_at old cs i u) ≡ stops (fault OutOfSteps) (progress_at new cs i u)

-- Members part at a decision, where each has a truth.
abbrev pub NotesPart : (n : ℕ) → Many → Account → Type 0
NotesPart n m old = ((i : ℕ) → i < n → (b : Bool) × (member_value m i ≡ bool b))
    → Parts (Bool → Run Flow) n (λ onward i. noted (member_value m i) >>= onward) (λ onward i. (b : Bool) → IsSteady (onward b)) old

-- The value of a decision leaves its mark.
abbrev pub NotesAll : (n : ℕ) → Many → Account → Result Bool Apart → Account → Type 0
NotesAll n m old result new =
    AllGo n result (λ cs i u. Gives give result (progress_at new cs i u) (noted (member_value m i) (progress_at old cs i u))) (NotesPart n m old)

-- Each member leaves the mark of an operation.
abbrev pub NotesIssued : Account → Account → Type 0
NotesIssued old new = (cs : Charges) (i : ℕ) (u : Unseen) (op : Op)
    → progress_at new cs i (record u { ops = op ∷ u.ops }) ≡ record (progress_at old cs i u) { trail = (progress_at old cs i u).trail ++ issued op ∷ [] }

-- Members part at a text that one can't print.
abbrev pub PrintsPart : (n : ℕ) → Many → Account → Type 0
PrintsPart n m old = Parts (Run Flow) n (λ onward i. print_text (member_value m i) >> onward) (λ onward i. IsSteady onward) old

-- Each of n members prints a text.
abbrev pub AllPrint : (n : ℕ) → Many → Account → Result (Unit {0}) Apart → Account → Type 0
AllPrint n m old result new =
    AllGo n result (λ cs i u. Gives give result (progress_at new cs i u) (print_text (member_value m i) (progress_at old cs i u))) (PrintsPart n m old)

-- Each of n members sets its status. None does so otherwise than others.
abbrev pub AllSet : (n : ℕ) → Many → Account → Result (Unit {0}) Apart → Account → Type 0
AllSet n m old result new =
    AllGo n result (λ cs i u. Gives give result (progress_at new cs i u) (set_status_to (member_value m i) (progress_at old cs i u))) ⊥

-- Each of n members has a status here.
abbrev pub HaveStatuses : (n : ℕ) → Many → Type 0
HaveStatuses n m = (i : ℕ) → i < n → (status : ℕ) × (status_in (member_value m i) ≡ Ok status)

-- Each member's progress is that of a run that begins.
abbrev pub IsStart : Account → Type 0
IsStart a = (kept : Option (List Cost)) (i : ℕ) (answers : List Datum)
    → progress_at a [] i (record { kept = kept; ops = []; more = answers }) ≡ keeping kept (start answers)
