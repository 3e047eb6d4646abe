-- Parts of a run that never go back, and those that begin with a step.
use Rattle.std.proofs.Common.{◌≡◌, ◌<◌, ◌+◌, ◌++◌, ◌⊎◌, inl, inr, ⊎_elim, ℕ, Bool, true, false, if◌then◌else◌, nat_lt, length, List, [], ◌∷◌, Result, Ok, Err}
use Rattle.std.proofs.Common.{refl, sym, ap, ◌∙◌, arith}
use Rattle.std.proofs.lemmas.List.{append-nil, append_assoc}
use Rattle.std.specs.Prelude.{◌==◌}
use Rattle.script_tree.specs.Datum.{Datum, is_within_limits}
use Rattle.script_tree.specs.declared.fault.ScriptFault.{ScriptFault}
use Rattle.script_tree.specs.declared.fault.ScriptFault.TheVariants.{OutOfSteps, TooLarge, TooManyOperations}
use Rattle.script_tree.specs.declared.limits.TheConstants.{MOST_BODY_BYTES, MOST_OPERATIONS, MOST_STEPS}
use Rattle.script_tree.specs.declared.operation.Op.{Op}
use Rattle.script_meaning.specs.Evaluate.{node, call_node, call_made, issue_unless_fault, print, print_value, set_status}
use Rattle.script_meaning.specs.BuiltinCalls.{Call, plain, of_request, operation}
use Rattle.script_meaning.specs.Kinds.{bool_in}
use Rattle.script_meaning.specs.Operands.{OpAnswer}
use Rattle.script_meaning.specs.Operators.{Answer, printed}
use Rattle.script_meaning.specs.Run.{Progress, Ran, goes, stops, Run, Cost, and_cost, after, charge, fails, give, unless_fault, note, decide_by}
use Rattle.script_meaning.specs.Run.{last_issuing, count_operation, answered, take_answer, issue, ◌>>=◌, ◌>>◌}
use Rattle.script_meaning.specs.declared.run.Mark.{Mark}
use Rattle.script_meaning.specs.declared.run.Stop.TheVariants.{Wants as wants, Fault as fault, AnswerFault as answer_fault}
use Rattle.script_meaning.specs.declared.run.Mark.TheVariants.{Decided, Issued}
use Rattle.script_tree.specs.Requests.{Request}
use Rattle.group_laws.specs.Steady.{progress_in, IsFurther, FailsLater, IsSteady, no_fault}

-- ---- how far

pub same : (p : Progress) → IsFurther p p
same p = record { steps' = omega arith; more = []; trail' = sym (append-nil p.trail) }

pub and_further : (p q r : Progress) → IsFurther p q → IsFurther q r → IsFurther p r
and_further p q r h k = record {
  steps' = omega (arith, h.steps', k.steps');
  more = h.more ++ k.more;
  trail' = k.trail' ∙ ap (λ t. t ++ k.more) h.trail' ∙ append_assoc p.trail h.more k.more;
}

-- ---- parts that never go back

abbrev pub Grows : {A : Type 0} → Run A → Type 0
Grows run = (p : Progress) → IsFurther p (progress_in (run p))

after_grows : {A B : Type 0} (o : Ran A) (f : A → Run B) → ((a : A) → Grows (f a)) → IsFurther (progress_in o) (progress_in (after o f))
after_grows (goes a p) f h = h a p
after_grows (stops e p) f h = same p

pub then_grows : {A B : Type 0} (m : Run A) (f : A → Run B) → Grows m → ((a : A) → Grows (f a)) → Grows (m >>= f)
then_grows m f h k p = and_further p (progress_in (m p)) (progress_in (after (m p) f)) (h p) (after_grows (m p) f k)

pub give_grows : {A : Type 0} (a : A) → Grows (give a)
give_grows a p = same p

pub fails_grows : (A : Type 0) (f : ScriptFault) → Grows (fails {A = A} f)
fails_grows A f p = same p

pub unless_grows : {A : Type 0} (r : Result A ScriptFault) → Grows (unless_fault r)
unless_grows (Ok a) p = same p
unless_grows (Err f) p = same p

pub one_grows : {A : Type 0} (b : Bool) (m n : Run A) → Grows m → Grows n → Grows (if b then m else n)
one_grows true m n h k = h
one_grows false m n h k = k

-- ---- parts that begin with a step

-- A step was spent, or none was left.
abbrev pub HasSpent : {A : Type 0} → Progress → Ran A → Type 0
HasSpent before (goes a p) = before.steps < p.steps
HasSpent before (stops (wants op) p) = before.steps < p.steps
HasSpent before (stops (fault f) p) = (f ≡ OutOfSteps) ⊎ (before.steps < p.steps)
HasSpent before (stops answer_fault p) = before.steps < p.steps

pub record Spends {A : Type 0} (run : Run A) : Type 0 where
  pub further : Grows run
  pub spent : (p : Progress) → HasSpent p (run p)

pub spends_steady : {A : Type 0} (m : Run A) → Spends m → IsSteady m
spends_steady m h = record { further = h.further; later = λ p. by p (m p) (h.spent p) }
  where
    by : {A : Type 0} (p : Progress) (o : Ran A) → HasSpent p o → FailsLater no_fault p o
    by p (goes a q) k = tt
    by p (stops (wants op) q) k = tt
    by p (stops (fault f) q) k = ⊎_elim (λ none. inl none) (λ more. inr (inl more)) k
    by p (stops answer_fault q) k = k

has_spent : {A : Type 0} (p : Progress) (o : Ran A) → p.steps < (progress_in o).steps → HasSpent p o
has_spent p (goes a q) lt = lt
has_spent p (stops (wants op) q) lt = lt
has_spent p (stops (fault f) q) lt = inr lt
has_spent p (stops answer_fault q) lt = lt

after_spent : {A B : Type 0} (p : Progress) (o : Ran A) (f : A → Run B) → HasSpent p o → ((a : A) → Grows (f a)) → HasSpent p (after o f)
after_spent p (goes a q) f h k = let far = (k a q).steps' in has_spent p (f a q) (omega (arith, h, far))
after_spent p (stops (wants op) q) f h k = h
after_spent p (stops (fault e) q) f h k = h
after_spent p (stops answer_fault q) f h k = h

pub then_spends : {A B : Type 0} (m : Run A) (f : A → Run B) → Spends m → ((a : A) → Grows (f a)) → Spends (m >>= f)
then_spends m f h k = record { further = then_grows m f h.further k; spent = λ p. after_spent p (m p) f (h.spent p) k }

abbrev charged : Bool → Cost → Progress → Ran (Unit {0})
charged b c p = if b then stops (fault OutOfSteps) p else goes tt (record p { steps = p.steps + 1; costs = and_cost c p.costs })

charged_grows : (b : Bool) (c : Cost) (p : Progress) → IsFurther p (progress_in (charged b c p))
charged_grows true c p = same p
charged_grows false c p = record { steps' = omega arith; more = []; trail' = sym (append-nil p.trail) }

charged_spent : (b : Bool) (c : Cost) (p : Progress) → HasSpent p (charged b c p)
charged_spent true c p = inl refl
charged_spent false c p = omega arith

pub charge_spends : (c : Cost) → Spends (charge c)
charge_spends c = record { further = λ p. charged_grows (p.steps == MOST_STEPS) c p; spent = λ p. charged_spent (p.steps == MOST_STEPS) c p }

pub charged_spends : {A : Type 0} (c : Cost) (m : Run A) → Grows m → Spends (charge c >> m)
charged_spends c m h = then_spends (charge c) (λ _. m) (charge_spends c) (λ _. h)

pub node_spends : (ds : List Datum) (a : Answer) → Spends (node ds a)
node_spends ds a = charged_spends _ (unless_fault a) (unless_grows a)

-- ---- marks

pub note_grows : (m : Mark) → Grows (note m)
note_grows m p = record { steps' = omega arith; more = m ∷ []; trail' = refl }

pub decide_spends : (operand d : Datum) → Spends (decide_by operand d)
decide_spends operand d =
    charged_spends _ _ (then_grows (unless_fault (bool_in d)) _ (unless_grows (bool_in d))
    (λ b. then_grows {B = Bool} (note (Decided b)) (λ _. give b) (note_grows (Decided b)) (λ _. give_grows b)))

abbrev counting : Bool → Progress → Ran (Unit {0})
counting b p =
    if b then stops (fault TooManyOperations) p else goes tt (record p { operations = p.operations + 1; costs = last_issuing p.costs })

counted : (b : Bool) (p : Progress) → IsFurther p (progress_in (counting b p))
counted true p = same p
counted false p = record { steps' = omega arith; more = []; trail' = sym (append-nil p.trail) }

taken : (b : Bool) (d : Datum) (q : Progress) → IsFurther q (progress_in (if b then goes d q else stops answer_fault q))
taken true d q = same q
taken false d q = same q

answered_grows : (op : Op) (ds : List Datum) → Grows (answered op ds)
answered_grows op [] p = same p
answered_grows op (d ∷ ds) p =
    let q : Progress = record p { answers = ds; trail = p.trail ++ (Issued op ∷ []) } in
    and_further p q _ (record { steps' = omega arith; more = Issued op ∷ []; trail' = refl }) (taken (is_within_limits d) d q)

pub issue_grows : (op : Op) → Grows (issue op)
issue_grows op = then_grows count_operation (λ _. take_answer op) (λ p. counted (p.operations == MOST_OPERATIONS) p) (λ _ p. answered_grows op p.answers p)

pub operation_grows : (op : OpAnswer) → Grows (issue_unless_fault op)
operation_grows op = then_grows (unless_fault op) issue (unless_grows op) issue_grows

call_grows : (c : Call) → Grows (call_made c)
call_grows (plain a) = unless_grows a
call_grows (of_request a) = unless_grows a
call_grows (operation op) = operation_grows op

pub call_spends : (q : Request) (ds : List Datum) (c : Call) → Spends (call_node q ds c)
call_spends q ds c = charged_spends _ (call_made c) (call_grows c)

-- ---- the response

abbrev joining : Bool → List ℕ → Progress → Ran (Unit {0})
joining b bytes p = if b then stops (fault TooLarge) p else goes tt (record p { body = p.body ++ bytes })

joined : (b : Bool) (bytes : List ℕ) (p : Progress) → IsFurther p (progress_in (joining b bytes p))
joined true bytes p = same p
joined false bytes p = record { steps' = omega arith; more = []; trail' = sym (append-nil p.trail) }

pub print_grows : (d : Datum) → Grows (print_value d)
print_grows d =
    then_grows (unless_fault (printed d)) print (unless_grows (printed d))
    (λ bytes p. joined (nat_lt MOST_BODY_BYTES (length (p.body ++ bytes))) bytes p)

pub set_status_grows : (n : ℕ) → Grows (set_status n)
set_status_grows n p = record { steps' = omega arith; more = []; trail' = sym (append-nil p.trail) }
