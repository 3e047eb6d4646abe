-- Any instruction that each member of a group does.
use Rattle.std.specs.Prelude.{◌≡◌, ◌≤◌, ◌<◌, ◌+◌, ◌-◌, ◌*◌, ℕ, List, map, reverse, length, Some, Result, Ok, Err, slice_get}
use Rattle.script_tree.specs.Requests.{Request}
use Rattle.script_tree.specs.declared.limits.TheConstants.{MOST_STEPS}
use Rattle.script_meaning.specs.Evaluate.{Flow}
use Rattle.script_meaning.specs.Run.{Run, fails}
use Rattle.script_code.specs.CodeRun as code
use Rattle.script_code.specs.CodeRun.{Next, step, back_to, enter}
use Rattle.script_code.specs.declared.instruction.Instruction.{Instruction}
use Rattle.group_laws.specs.Steady.{IsSteadyNext}
use Rattle.multivalue.specs.Many.{Many, member_value}
use Rattle.multivalue.specs.declared.apart.Apart.{Apart}
use Rattle.multivalue.specs.declared.apart.Apart.TheVariants.{Memory, Fault, Differ}
use Rattle.multi_nodes.specs.Members.{members_at, request_at}
use Rattle.multi_state.specs.AllDo.{AllDo, Gives}
use Rattle.multi_state.specs.Parting.{Parts}
use Rattle.multi_state.specs.Progress.{progress_at}
use Rattle.multi_state.specs.Does.{Then, goes_on, went_at}
use Rattle.multi_state.specs.Stacks.{stack_at}
use Rattle.multi_state.specs.declared.went.Went.{Went}
use Rattle.multi_run.specs.declared.run.Frame.{Frame}
use Rattle.multi_run.specs.declared.run.Run as group

-- where a member's call goes on
abbrev pub frame_at : ℕ → Frame → code.Frame
frame_at i f = record { place = f.place; stack = stack_at i f.stack; slots = members_at i f.slots.items }

-- a member's calls, the newest first
abbrev pub frames_at : ℕ → List Frame → List code.Frame
frames_at i fs = map (frame_at i) (reverse fs)

-- what comes next, where the group is
abbrev pub next_at : Next → ℕ → group.Run → Then
next_at next i m = next (frames_at i m.frames.items) m.place

-- a member goes on so from there, or is over, or takes the answer to its operation
abbrev pub ran_at : Went → Next → ℕ → group.Run → Run Flow
ran_at w next i m = went_at w (next_at next i m) i m.state

-- a member does an instruction there
abbrev pub acts_at : List Request → (functions : List ℕ) → Instruction → Next → ℕ → group.Run → Run Flow
acts_at qs functions instruction next i m = goes_on (next_at (step (request_at qs i) functions (Some instruction) next) i m) i m.state

-- Members part at the instruction, whatever comes next.
abbrev pub ActsPart : List Request → (functions : List ℕ) → Instruction → group.Run → Type 0
ActsPart qs functions instruction old =
    Parts Next (length qs) (λ next i. acts_at qs functions instruction next i old) (λ next i. IsSteadyNext next) old.state.account

-- Each member does the instruction, whatever comes next.
abbrev pub Acts : (before after' : ℕ) → List Request → (functions : List ℕ) → Instruction → group.Run → Result Went Apart → group.Run → Type 0
Acts before after' qs functions instruction old result new =
    AllDo (length qs) before after' result (λ cs ds i u. (next : Next)
    → Gives (λ w. ran_at w next i new) result (progress_at new.state.account ds i u)
    (acts_at qs functions instruction next i old (progress_at old.state.account cs i u))) (ActsPart qs functions instruction old)

-- ---- calls

-- Each member goes back to where its call was, with this value.
pub record GoesBack (m : Many) (old : group.Run) (w : Went) (new : group.Run) : Type 0 where
  pub goes' : (next : Next) (i : ℕ) → back_to next (frames_at i old.frames.items) (member_value m i) ≡ ran_at w next i new
  pub account : new.state.account ≡ old.state.account

-- a member's call
abbrev pub entered_at : (functions : List ℕ) → (function : ℕ) → List Many → Next → ℕ → group.Run → Run Flow
entered_at functions function ms next i m =
    enter next (frames_at i m.frames.items) (slice_get functions function)
    (record { place = m.place + 1; stack = stack_at i m.state.stack; slots = members_at i m.state.slots.items })
    (members_at i ms)

-- Each member enters this function with these arguments.
abbrev pub Enters : (functions : List ℕ) → (function : ℕ) → List Many → group.Run → Result Went Apart → group.Run → Type 0
Enters functions function ms old (Ok w) new =
    ((next : Next) (i : ℕ) → entered_at functions function ms next i old ≡ ran_at w next i new)
    × (new.state.account ≡ old.state.account)
Enters functions function ms old (Err Memory) new = Unit {0}
Enters functions function ms old (Err (Fault f)) new =
    ((next : Next) (i : ℕ) → entered_at functions function ms next i old ≡ fails f)
    × (new.state.account ≡ old.state.account)
Enters functions function ms old (Err Differ) new = ⊥

-- ---- the end of a run

-- how many steps and calls may still be made, each step counted twice
abbrev pub allowance : group.Run → ℕ
allowance m = (MOST_STEPS - m.state.account.steps) * 2 + length m.frames.items

-- Fewer may be made, or as many, further on in the code.
abbrev pub IsLater : group.Run → group.Run → Type 0
IsLater old new = (allowance new ≤ allowance old) × (allowance new ≡ allowance old → old.place < new.place)
