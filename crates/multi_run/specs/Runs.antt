-- Instructions that each member of a group does, one after the other.
use Rattle.std.specs.Prelude.{◌≢◌, ◌+◌, ◌-◌, ◌*◌, ℕ, List, length, Result}
use Rattle.script_tree.specs.Requests.{Request}
use Rattle.script_meaning.specs.Evaluate.{Flow}
use Rattle.script_meaning.specs.Run.{Run}
use Rattle.script_code.specs.CodeRun.{Next, exec}
use Rattle.script_code.specs.declared.translate.Code.{Code}
use Rattle.group_laws.specs.Shown.{shown_of}
use Rattle.multivalue.specs.declared.apart.Apart.{Apart}
use Rattle.multi_nodes.specs.Members.{request_at}
use Rattle.multi_state.specs.AllDo.{AllDo, Gives}
use Rattle.multi_state.specs.Parting.{TwoOf}
use Rattle.multi_state.specs.Progress.{Charges, Unseen, progress_at}
use Rattle.multi_state.specs.Does.{goes_on}
use Rattle.multi_state.specs.declared.went.Went.{Went}
use Rattle.multi_state.specs.declared.went.Went.TheVariants.{On, Over, Wants}
use Rattle.multi_run.specs.Acts.{allowance, next_at, ran_at}
use Rattle.multi_run.specs.declared.run.Run as group

-- at most k instructions for a member
abbrev pub exec_at : List Request → Code → ℕ → ℕ → Next
exec_at qs code i k = exec (request_at qs i) code.functions.items code.instructions.items k

-- a member does them, where the group is
abbrev pub going_at : List Request → Code → ℕ → group.Run → ℕ → Run Flow
going_at qs code i m k = goes_on (next_at (exec_at qs code i k) i m) i m.state

-- Two members part: after some number of instructions of each other things show, however many more each may do.
abbrev pub RunsPart : List Request → Code → group.Run → Type 0
RunsPart qs code old = TwoOf (length qs) (λ i j. (cs : Charges) (u v : Unseen) → (m n : ℕ) × ((k l : ℕ)
    → shown_of (going_at qs code i old (m + k) (progress_at old.state.account cs i u))
    ≢ shown_of (going_at qs code j old (n + l) (progress_at old.state.account cs j v))))

-- Each member does some number of instructions, and this is what it comes to, however many more it may do.
abbrev pub Runs : (before after' : ℕ) → List Request → Code → group.Run → Result Went Apart → group.Run → Type 0
Runs before after' qs code old result new =
    AllDo (length qs) before after' result (λ cs ds i u.
    (n : ℕ) × ((k : ℕ) → Gives (λ w. ran_at w (exec_at qs code i k) i new) result
    (progress_at new.state.account ds i u) (going_at qs code i old (n + k)
    (progress_at old.state.account cs i u)))) (RunsPart qs code old)

-- It is over, or an operation is wanted.
abbrev pub HasStopped : Went → Type 0
HasStopped On = ⊥
HasStopped Over = Unit {0}
HasStopped (Wants ops) = Unit {0}

-- Each instruction takes from what may still be done, or goes forward in code of this length.
abbrev pub rank : (len : ℕ) → group.Run → ℕ
rank len m = allowance m * (len + 1) + (len - m.place)
