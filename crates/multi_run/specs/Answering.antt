-- The answers to the operations that the members of a group wanted.
use Rattle.std.specs.Prelude.{◌≡◌, ◌<◌, ℕ, Bool, true, false, ◌∷◌, Result, Ok, Err}
use Rattle.script_tree.specs.Datum.{is_within_limits}
use Rattle.script_tree.specs.declared.operation.Op.{Op}
use Rattle.script_meaning.specs.Run.{stops, after, take_answer}
use Rattle.script_meaning.specs.declared.run.Stop.TheVariants.{AnswerFault as answer_fault}
use Rattle.script_code.specs.CodeRun.{Next}
use Rattle.multivalue.specs.Many.{Many, member_value}
use Rattle.multivalue.specs.declared.apart.Apart.{Apart}
use Rattle.multivalue.specs.declared.apart.Apart.TheVariants.{Memory, Fault, Differ}
use Rattle.multi_nodes.specs.Members.{members_at}
use Rattle.multi_state.specs.Parting.{TwoOf}
use Rattle.multi_state.specs.Progress.{Charges, Unseen, progress_at}
use Rattle.multi_state.specs.Does.{goes_on}
use Rattle.multi_state.specs.Stacks.{stack_at}
use Rattle.multi_run.specs.Acts.{next_at}
use Rattle.multi_run.specs.declared.run.Run as group

-- One of n members has an answer within the limits of a value, and another has none.
abbrev pub AnswersPart : ℕ → Many → Type 0
AnswersPart n m = TwoOf n (λ i j. (is_within_limits (member_value m i) ≡ true) × (is_within_limits (member_value m j) ≡ false))

-- Each of n members, wanting an operation, takes its answer: it goes on with it, or stops where no answer is within the
-- limits of a value.
abbrev pub AllAnswered : ℕ → Many → group.Run → Result Bool Apart → group.Run → Type 0
AllAnswered n m old (Ok true) new = (cs : Charges) (i : ℕ) → i < n → (u : Unseen) (op : Op) (next : Next)
    → after (take_answer op (progress_at old.state.account cs i (record u { more = member_value m i ∷ u.more })))
    (λ d. next_at next i old (d ∷ stack_at i old.state.stack) (members_at i old.state.slots.items))
    ≡ goes_on (next_at next i new) i new.state (progress_at new.state.account cs i (record u { ops = op ∷ u.ops }))
AllAnswered n m old (Ok false) new = (cs : Charges) (i : ℕ) → i < n → (u : Unseen) (op : Op)
    → take_answer op (progress_at old.state.account cs i (record u { more = member_value m i ∷ u.more }))
    ≡ stops answer_fault (progress_at new.state.account cs i (record u { ops = op ∷ u.ops }))
AllAnswered n m old (Err Memory) new = Unit {0}
AllAnswered n m old (Err (Fault f)) new = ⊥
AllAnswered n m old (Err Differ) new = AnswersPart n m
