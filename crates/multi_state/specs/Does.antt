-- An instruction that each member of a group does, after which the next one is done.
use Rattle.std.specs.Prelude.{◌+◌, ℕ, List, [], ◌∷◌, length, get_or, Some, Result}
use Rattle.script_tree.specs.Datum.{Datum}
use Rattle.script_tree.specs.Requests.{Request}
use Rattle.script_meaning.specs.Evaluate.{Flow, on}
use Rattle.script_meaning.specs.Run.{Run, give, take_answer, ◌>>=◌}
use Rattle.script_code.specs.CodeRun.{Frame, Next, step}
use Rattle.script_code.specs.declared.instruction.Instruction.{Instruction}
use Rattle.script_nodes.specs.declared.primitive.Primitive.{Primitive}
use Rattle.group_laws.specs.Steady.{IsSteady, IsSteadyNext}
use Rattle.multivalue.specs.Many.{Many}
use Rattle.multivalue.specs.declared.apart.Apart.{Apart}
use Rattle.multi_nodes.specs.Answers.{nothing}
use Rattle.multi_nodes.specs.Members.{members_at, request_at}
use Rattle.multi_state.specs.AllDo.{AllDo, Gives, node_at}
use Rattle.multi_state.specs.Parting.{Parts}
use Rattle.multi_state.specs.Progress.{progress_at}
use Rattle.multi_state.specs.Stacks.{stack_at}
use Rattle.multi_state.specs.declared.state.State.{State}
use Rattle.multi_state.specs.declared.went.Went.{Went}
use Rattle.multi_state.specs.declared.went.Went.TheVariants.{On, Over, Wants}

-- what is done with this stack and these slots
abbrev pub Then : Type 0
Then = (stack slots : List Datum) → Run Flow

-- a member does it in this state
abbrev pub goes_on : Then → ℕ → State → Run Flow
goes_on then' i s = then' (stack_at i s.stack) (members_at i s.slots.items)

-- a member goes on so, or is over, or takes the answer to its operation
abbrev pub went_at : Went → Then → ℕ → State → Run Flow
went_at On then' i s = goes_on then' i s
went_at Over then' i s = give (on [])
went_at (Wants ops) then' i s = take_answer (get_or ops i nothing) >>= λ d. then' (d ∷ stack_at i s.stack) (members_at i s.slots.items)

-- what is around an instruction
pub record Around : Type 0 where
  -- where the functions begin
  pub functions : List ℕ
  -- what comes next
  pub next : Next
  -- the calls that are not over
  pub frames : List Frame
  -- its place
  pub place : ℕ

-- what comes next, at the next place
abbrev pub onward : Around → Then
onward a = a.next a.frames (a.place + 1)

-- a member does an instruction
abbrev pub does_at : List Request → Instruction → Around → ℕ → State → Run Flow
does_at qs instruction a i s = goes_on (step (request_at qs i) a.functions (Some instruction) a.next a.frames a.place) i s

-- Members part at the instruction, whatever comes next.
abbrev pub DoingsPart : List Request → Instruction → State → Type 0
DoingsPart qs instruction old = Parts Around (length qs) (λ a i. does_at qs instruction a i old) (λ a i. IsSteadyNext a.next) old.account

-- Each member does the instruction, whatever comes next.
abbrev pub Does : (before after' : ℕ) → List Request → Instruction → State → Result Went Apart → State → Type 0
Does before after' qs instruction old result new =
    AllDo (length qs) before after' result (λ cs ds i u. (a : Around)
    → Gives (λ w. went_at w (onward a) i new) result (progress_at new.account ds i u)
    (does_at qs instruction a i old (progress_at old.account cs i u))) (DoingsPart qs instruction old)

-- a member has the value of its node on the stack, and goes on
abbrev pub puts_at : List Request → Primitive → List Many → Then → ℕ → State → Run Flow
puts_at qs p ms then' i s = node_at qs p ms i >>= λ d. then' (d ∷ stack_at i s.stack) (members_at i s.slots.items)

-- Members part at the node, whatever is done then.
abbrev pub PuttingsPart : List Request → Primitive → List Many → State → Type 0
PuttingsPart qs p ms old = Parts Then (length qs) (λ then' i. puts_at qs p ms then' i old)
    (λ then' i. (stack slots : List Datum) → IsSteady (then' stack slots)) old.account

-- Each member does a node, and has its value on the stack then.
abbrev pub Puts : (before after' : ℕ) → List Request → Primitive → List Many → State → Result Went Apart → State → Type 0
Puts before after' qs p ms old result new =
    AllDo (length qs) before after' result (λ cs ds i u. (then' : Then)
    → Gives (λ w. went_at w then' i new) result (progress_at new.account ds i u)
    (puts_at qs p ms then' i old (progress_at old.account cs i u))) (PuttingsPart qs p ms old)
