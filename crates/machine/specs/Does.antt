-- What the machine did at an instruction.
use Rattle.std.specs.Prelude.{suc, ◌≡◌, ◌≤◌, ◌<◌, ◌+◌, ◌-◌, ◌*◌, ℕ, List, [], ◌∷◌, length, Some, Result, Ok, Err, OnOk}
use Rattle.script_tree.specs.Datum.{Datum}
use Rattle.script_tree.specs.Requests.{Request}
use Rattle.script_tree.specs.declared.limits.TheConstants.{MOST_STEPS}
use Rattle.script_meaning.specs.BuiltinCalls.{Call}
use Rattle.script_meaning.specs.Evaluate.{Flow, on, call_made}
use Rattle.script_meaning.specs.Kinds.{list_in}
use Rattle.script_meaning.specs.Operations.{Op}
use Rattle.script_meaning.specs.Run.{Progress, Ran, goes, stops, after, answered, issue, Run, ◌>>◌}
use Rattle.script_meaning.specs.declared.run.Stop.TheVariants.{Fault as fault}
use Rattle.script_code.specs.CodeRun.{Frame, Next, lacking, step, exec, back_to, turn}
use Rattle.script_code.specs.declared.instruction.Instruction.{Instruction}
use Rattle.machine.specs.Gives.{progress_of, spend}
use Rattle.machine.specs.declared.run.Run.{Run as Machine}
use Rattle.machine.specs.declared.state.State.{State}
use Rattle.machine.specs.declared.stopped.Stopped.{Stopped}
use Rattle.machine.specs.declared.stopped.Stopped.TheVariants.{Memory, Wants, Fault}
use Rattle.machine.specs.declared.stopped.Went.{Went}
use Rattle.machine.specs.declared.stopped.Went.TheVariants.{On, Over}

-- ---- what is left of an instruction

-- what comes then, with this stack and these slots
abbrev pub Then : Type 0
Then = (stack slots : List Datum) → Run Flow

-- the same with the answer to an operation on the stack
abbrev pub with_answer : Then → State → Op → (ops : List Op) → (more : List Datum) → Ran Flow
with_answer then' s op ops more = after (answered op more (progress_of s.account ops more)) (λ d. then' (d ∷ s.stack) s.slots.items)

-- A run came to what going on with the state that is left comes to, or is over or stops there. Of a call that ran out of
-- memory nothing is said.
abbrev pub Leaves : Then → (ops : List Op) → (more : List Datum) → Result Went Stopped → State → Ran Flow → Type 0
Leaves then' ops more (Ok On) s o = o ≡ then' s.stack s.slots.items (progress_of s.account ops more)
Leaves then' ops more (Ok Over) s o = o ≡ goes (on []) (progress_of s.account ops more)
Leaves then' ops more (Err Memory) s o = Unit {0}
Leaves then' ops more (Err (Wants op)) s o = o ≡ with_answer then' s op ops more
Leaves then' ops more (Err (Fault f)) s o = o ≡ stops (fault f) (progress_of s.account ops more)

-- ---- an instruction after which the next one is done

-- The state does this instruction for a request, whatever comes next.
abbrev pub DoesFor : Request → Instruction → State → Result Went Stopped → State → Type 0
DoesFor q i old result new =
    (functions : List ℕ) (next : Next) (fs : List Frame) (pc : ℕ) (ops : List Op) (more : List Datum)
    → Leaves (next fs (pc + 1)) ops more result new (step q functions (Some i) next fs pc old.stack old.slots.items (progress_of old.account ops more))

-- The same for any request.
abbrev pub Does : Instruction → State → Result Went Stopped → State → Type 0
Does i old result new = (q : Request) → DoesFor q i old result new

-- The state does this instruction and then that one.
abbrev pub DoesBoth : Instruction → Instruction → State → Result Went Stopped → State → Type 0
DoesBoth i j old result new =
    (q : Request) (functions : List ℕ) (next : Next) (fs : List Frame) (pc : ℕ) (ops : List Op) (more : List Datum)
    → Leaves (next fs (pc + 1 + 1)) ops more result new
    (step q functions (Some i) (step q functions (Some j) next) fs pc old.stack old.slots.items
    (progress_of old.account ops more))

-- No step is given back.
abbrev pub Rises : State → Result Went Stopped → State → Type 0
Rises old result new = OnOk result (old.account.steps ≤ new.account.steps)

-- an operation is issued
abbrev pub Issues : Op → State → Result Went Stopped → State → Type 0
Issues op old result new =
    (then' : Then) (ops : List Op) (more : List Datum)
    → Leaves then' ops more result new (after (issue op (progress_of old.account ops more)) (λ d. then' (d ∷ old.stack) old.slots.items))

-- a call of a built-in function is made, its step too
abbrev pub Calls : Call → State → Result Went Stopped → State → Type 0
Calls c old result new =
    (then' : Then) (ops : List Op) (more : List Datum)
    → Leaves then' ops more result new (after ((spend >> call_made c) (progress_of old.account ops more)) (λ d. then' (d ∷ old.stack) old.slots.items))

-- ---- any instruction

-- what comes of going on where the machine stands
abbrev pub onward : Next → Machine → (ops : List Op) → (more : List Datum) → Ran Flow
onward next m ops more = next m.frames m.place m.state.stack m.state.slots.items (progress_of m.state.account ops more)

-- the same with the answer to an operation that it wants
abbrev pub answered_on : Next → Machine → Op → (ops : List Op) → (more : List Datum) → Ran Flow
answered_on next m op ops more = with_answer (next m.frames m.place) m.state op ops more

-- A run came to what going on where the machine stands comes to, or is over or stops there.
abbrev pub Comes : Next → (ops : List Op) → (more : List Datum) → Result Went Stopped → Machine → Ran Flow → Type 0
Comes next ops more result m o = Leaves (next m.frames m.place) ops more result m.state o

-- The machine goes back to where the call was with this value; without one the page is over.
abbrev pub Returns : Datum → Machine → Result Went Stopped → Machine → Type 0
Returns d old result new =
    (next : Next) (ops : List Op) (more : List Datum)
    → Comes next ops more result new (back_to next old.frames d (progress_of old.state.account ops more))

-- The machine takes the next turn of a loop over a list of which this is left: it goes back, or out where there is none.
abbrev pub Turns : (whole left : Datum) → (out back : ℕ) → Machine → Result Went Stopped → Machine → Type 0
Turns whole left out back old result new =
    (next : Next) (ops : List Op) (more : List Datum)
    → Comes next ops more result new (turn next old.frames out back whole old.state.stack old.state.slots.items (list_in left)
    (progress_of old.state.account ops more))

-- past the end of the code nothing is done
abbrev pub EndsAt : ℕ → Next → Type 0
EndsAt len next =
    (fs : List Frame) (pc : ℕ) (stack slots : List Datum) (p : Progress) → len ≤ pc → next fs pc stack slots p ≡ stops (fault lacking) p

-- The machine does this instruction, which is at this place of code of this length, whatever comes next.
abbrev pub ActsFor : Request → List ℕ → Instruction → (len place : ℕ) → Machine → Result Went Stopped → Machine → Type 0
ActsFor q functions i len place old result new =
    (next : Next) (ops : List Op) (more : List Datum) → EndsAt len next
    → Comes next ops more result new (step q functions
    (Some i) next old.frames place old.state.stack old.state.slots.items (progress_of old.state.account ops more))

-- The same for any request, and wherever functions begin.
abbrev pub Acts : Instruction → (len place : ℕ) → Machine → Result Went Stopped → Machine → Type 0
Acts i len place old result new = (q : Request) (functions : List ℕ) → ActsFor q functions i len place old result new

-- ---- the end of a run

-- how many steps and calls a run may still make, each step counted twice
abbrev pub allowance : Machine → ℕ
allowance m = (MOST_STEPS - m.state.account.steps) * 2 + length m.frames

-- Each instruction takes from the allowance, or goes forward.
abbrev pub rank : (len place : ℕ) → Machine → ℕ
rank len place m = allowance m * (len + 1) + (len - place)

-- What a machine may still do became less, so that its run ends.
abbrev pub Falls : (len place : ℕ) → Machine → Machine → Type 0
Falls len place old new = rank len new.place new < rank len place old

-- ---- many instructions

-- the instruction that is next, and n behind it that are done with it, and whatever so many more do
abbrev pub StepsOn : Request → List ℕ → List Instruction → Machine → Result Went Stopped → Machine → Type 0
StepsOn q functions code old result new =
    (n : ℕ) × ((k : ℕ) (ops : List Op) (more : List Datum)
    → Comes (exec q functions code k) ops more result new
    (onward (exec q functions code (n + suc k)) old ops more))

-- after some number of instructions the run is over, or stops
abbrev pub Stands : Request → List ℕ → List Instruction → (ops : List Op) → (more : List Datum) → Result (Unit {0}) Stopped → Machine → (ℕ → Ran Flow) → Type 0
Stands q functions code ops more (Ok u) m here = (n : ℕ) × ((k : ℕ) → here (n + k) ≡ goes (on []) (progress_of m.state.account ops more))
Stands q functions code ops more (Err Memory) m here = Unit {0}
Stands q functions code ops more (Err (Wants op)) m here = (n : ℕ) × ((k : ℕ) → here (n + k) ≡ answered_on (exec q functions code k) m op ops more)
Stands q functions code ops more (Err (Fault f)) m here = (n : ℕ) × ((k : ℕ) → here (n + k) ≡ stops (fault f) (progress_of m.state.account ops more))

-- The machine runs on until its run is over, or stops, whatever operations were answered and answers are to come.
abbrev pub Runs : Request → List ℕ → List Instruction → Machine → Result (Unit {0}) Stopped → Machine → Type 0
Runs q functions code old result new =
    (ops : List Op) (more : List Datum) → Stands q functions code ops more result new (λ k. onward (exec q functions code k) old ops more)
