-- How many steps the parts of a run spend at least.
use Rattle.std.proofs.Common.{◌≡◌, ◌≤◌, ◌+◌, ◌==◌, ℕ, Bool, true, false, cond, List, [], ◌∷◌, ◌++◌, length, Result, Ok, Err, refl, arith, nat_lt}
use Rattle.std.proofs.lemmas.Bool.{eqb-false}
use Rattle.script_tree.specs.Datum.{Datum, is_within_limits}
use Rattle.script_tree.specs.Requests.{Request}
use Rattle.script_tree.specs.declared.fault.ScriptFault.{ScriptFault}
use Rattle.script_tree.specs.declared.fault.ScriptFault.TheVariants.{OutOfSteps, TooManyOperations, TooLarge}
use Rattle.script_tree.specs.declared.limits.TheConstants.{MOST_STEPS, MOST_OPERATIONS, MOST_BODY_BYTES}
use Rattle.script_tree.specs.declared.operation.Op.{Op}
use Rattle.script_meaning.specs.BuiltinCalls.{Call, plain, of_request, operation}
use Rattle.script_meaning.specs.Evaluate.{node, issue_unless_fault, call_node, call_made, call_cost, print, print_value, set_status}
use Rattle.script_meaning.specs.Kinds.{bool_in}
use Rattle.script_meaning.specs.Operands.{OpAnswer, status_in}
use Rattle.script_meaning.specs.Operators.{Answer, printed}
use Rattle.script_meaning.specs.declared.run.Mark.TheVariants.{Decided as decided, Issued as issued}
use Rattle.script_meaning.specs.declared.run.Stop.TheVariants.{Fault as fault, AnswerFault as answer_fault}
use Rattle.script_meaning.specs.Run.{Cost, taking, Run, Progress, Ran, goes, stops, after, ◌>>=◌, ◌>>◌, give, fails, unless_fault, charge, charge_for, and_cost, last_issuing, decide_by, note, count_operation, take_answer, answered, issue}

-- at least so many steps more are spent, and not too many
abbrev pub Spent : {A : Type 0} → ℕ → Progress → Ran A → Type 0
Spent n p (goes a q) = (n + p.steps ≤ q.steps) × (p.steps ≤ MOST_STEPS → q.steps ≤ MOST_STEPS)
Spent n p (stops e q) = Unit {0}

pub record Spends {A : Type 0} (n : ℕ) (m : Run A) : Type 0 where
  pub by : (p : Progress) → Spent n p (m p)

spent_on : {B : Type 0} (m n : ℕ) (p q : Progress) (o : Ran B)
    → (m + p.steps ≤ q.steps) × (p.steps ≤ MOST_STEPS → q.steps ≤ MOST_STEPS) → Spent n q o → Spent (m + n) p o
spent_on m n p q (goes b r) h k = (omega (arith, h.0, k.0), λ le. k.1 (h.1 le))
spent_on m n p q (stops e r) h k = tt

spent_after : {A B : Type 0} (m n : ℕ) (p : Progress) (o : Ran A) (g : A → Run B) → Spent m p o → ((a : A) → Spends n (g a)) → Spent (m + n) p (after o g)
spent_after m n p (goes a q) g h k = spent_on m n p q (g a q) h ((k a).by q)
spent_after m n p (stops e q) g h k = tt

pub spends_then : {A B : Type 0} (m n : ℕ) (f : Run A) (g : A → Run B) → Spends m f → ((a : A) → Spends n (g a)) → Spends (m + n) (f >>= g)
spends_then m n f g h k = record { by = λ p. spent_after m n p (f p) g (h.by p) k }

-- ---- what spends nothing

pub spends_give : {A : Type 0} (a : A) → Spends 0 (give a)
spends_give a = record { by = λ p. (omega arith, λ le. le) }

pub spends_fails : {A : Type 0} (f : ScriptFault) → Spends 0 (fails {A = A} f)
spends_fails f = record { by = λ p. tt }

pub spends_unless : {A : Type 0} (r : Result A ScriptFault) → Spends 0 (unless_fault r)
spends_unless (Ok a) = spends_give a
spends_unless (Err f) = spends_fails f

spends_note : (b : Bool) → Spends 0 (note (decided b))
spends_note b = record { by = λ p. (omega arith, λ le. le) }

count_spent : (b : Bool) (p : Progress) → Spent {A = Unit {0}} 0 p
    (cond b (stops (fault TooManyOperations) p)
    (goes tt (record p { operations = p.operations + 1; costs = last_issuing p.costs })))
count_spent true p = tt
count_spent false p = (omega arith, λ le. le)

taken_spent : (b : Bool) (op : Op) (d : Datum) (ds : List Datum) (p : Progress) → Spent 0 p (let q : Progress = record p { answers = ds; trail = p.trail ++ issued op ∷ [] } in cond b (goes d q) (stops answer_fault q))
taken_spent true op d ds p = (omega arith, λ le. le)
taken_spent false op d ds p = tt

answered_spent : (op : Op) (ds : List Datum) (p : Progress) → Spent 0 p (answered op ds p)
answered_spent op [] p = tt
answered_spent op (d ∷ ds) p = taken_spent (is_within_limits d) op d ds p

spends_issue : (op : Op) → Spends 0 (issue op)
spends_issue op = spends_then 0 0 count_operation (λ _. take_answer op)
    (record { by = λ p. count_spent (p.operations == MOST_OPERATIONS) p })
    (λ _. record { by = λ p. answered_spent op p.answers p })

pub spends_operation : (op : OpAnswer) → Spends 0 (issue_unless_fault op)
spends_operation op = spends_then 0 0 (unless_fault op) issue (spends_unless op) spends_issue

print_spent : (b : Bool) (bytes : List ℕ) (p : Progress)
    → Spent {A = Unit {0}} 0 p (cond b (stops (fault TooLarge) p) (goes tt (record p { body = p.body ++ bytes })))
print_spent true bytes p = tt
print_spent false bytes p = (omega arith, λ le. le)

spends_print : (d : Datum) → Spends 0 (print_value d)
spends_print d = spends_then 0 0 (unless_fault (printed d)) print (spends_unless (printed d))
    (λ bytes. record { by = λ p. print_spent (nat_lt MOST_BODY_BYTES (length (p.body ++ bytes))) bytes p })

pub spends_status : (n : ℕ) → Spends 0 (set_status n)
spends_status n = record { by = λ p. (omega arith, λ le. le) }

-- ---- what spends a step

charge_spent : (c : Cost) (b : Bool) (p : Progress) → (p.steps == MOST_STEPS) ≡ b
    → Spent {A = Unit {0}} 1 p (cond b (stops (fault OutOfSteps) p)
    (goes tt (record p { steps = p.steps + 1; costs = and_cost c p.costs })))
charge_spent c true p e = tt
charge_spent c false p e = (omega arith, λ le. omega (arith, le, eqb-false p.steps MOST_STEPS e))

pub spends_charge : (c : Cost) → Spends 1 (charge c)
spends_charge c = record { by = λ p. charge_spent c (p.steps == MOST_STEPS) p refl }

-- a step, and what spends nothing
pub spends_charged : {A : Type 0} (c : Cost) (m : Run A) → Spends 0 m → Spends 1 (charge c >> m)
spends_charged c m h = spends_then 1 0 (charge c) (λ _. m) (spends_charge c) (λ _. h)

pub spends_node : (ds : List Datum) (a : Answer) → Spends 1 (node ds a)
spends_node ds a = spends_charged (taking ds) (unless_fault a) (spends_unless a)

pub spends_decide : (operand d : Datum) → Spends 1 (decide_by operand d)
spends_decide operand d =
    spends_charged (taking (operand ∷ [])) _
    (spends_then 0 0 (unless_fault (bool_in d)) _ (spends_unless (bool_in d))
    (λ b. spends_then 0 0 (note (decided b)) _ (spends_note b) (λ _. spends_give b)))

made_spends : (c : Call) → Spends 0 (call_made c)
made_spends (plain a) = spends_unless a
made_spends (of_request a) = spends_unless a
made_spends (operation op) = spends_operation op

pub spends_call : (q : Request) (ds : List Datum) (c : Call) → Spends 1 (call_node q ds c)
spends_call q ds c = spends_charged (call_cost q ds c) (call_made c) (made_spends c)

pub spends_printing : (d : Datum) → Spends 1 (charge_for d >> print_value d)
spends_printing d = spends_charged (taking (d ∷ [])) (print_value d) (spends_print d)

pub spends_setting : (d : Datum) → Spends 1 (charge_for d >> (unless_fault (status_in d) >>= set_status))
spends_setting d = spends_charged (taking (d ∷ [])) _ (spends_then 0 0 (unless_fault (status_in d)) set_status (spends_unless (status_in d)) spends_status)
