-- Runs that part show it.
use Rattle.std.proofs.Common.{◌≡◌, ◌≢◌, ◌∙◌, ◌<◌, ◌+◌, ◌++◌, ⊎_elim, ℕ, suc, Bool, true, false, if◌then◌else◌, true≢false}
use Rattle.std.proofs.Common.{List, [], ◌∷◌, map, length, Option, Some, None, refl, sym, ap, arith}
use Rattle.std.specs.Prelude.{◌==◌}
use Rattle.std.proofs.lemmas.List.{append-nil}
use Rattle.script_tree.specs.Datum.{Datum, is_within_limits}
use Rattle.script_tree.specs.declared.limits.TheConstants.{MOST_OPERATIONS}
use Rattle.script_tree.specs.declared.operation.Op.{Op}
use Rattle.script_meaning.specs.ValueFaults.{is_of_values}
use Rattle.script_tree.specs.Faults.{fault_number}
use Rattle.script_tree.proofs.Equals.{fault_is}
use Rattle.script_tree.specs.declared.fault.ScriptFault.{ScriptFault}
use Rattle.script_tree.specs.declared.fault.ScriptFault.TheVariants.{WrongKind, Overflow, ZeroDivisor, OutOfRange, TooLarge, OutOfSteps}
use Rattle.script_tree.specs.declared.fault.ScriptFault.TheVariants.{TooManyOperations, TooDeep, BadBound}
use Rattle.script_meaning.specs.Evaluate.{Flow}
use Rattle.script_meaning.specs.Run.{Progress, Ran, Run, goes, stops, after, last_issuing, answered, take_answer, issue, ◌>>=◌}
use Rattle.script_meaning.specs.declared.run.Mark.{Mark}
use Rattle.script_meaning.specs.declared.run.Mark.TheVariants.{Decided as decided, Issued as issued}
use Rattle.script_meaning.specs.declared.run.Stop.TheVariants.{Wants as wants, Fault as fault, AnswerFault as answer_fault}
use Rattle.group_laws.specs.Shown.{Shown, over, waits, shown_mark, shown_end, shown_of, after_decision, PartingShows}
use Rattle.group_laws.specs.Steady.{IsSteadyBut, IsFurther, FailsLater, progress_in}

-- ---- ends

some_number : (f : ScriptFault) → 0 < fault_number f
some_number WrongKind = omega arith
some_number Overflow = omega arith
some_number ZeroDivisor = omega arith
some_number OutOfRange = omega arith
some_number TooLarge = omega arith
some_number OutOfSteps = omega arith
some_number TooManyOperations = omega arith
some_number TooDeep = omega arith
some_number BadBound = omega arith

same_over : (a b c d : ℕ) → over a b ≡ over c d → (a ≡ c) × (b ≡ d)
same_over a b c d h = (cc, cc)

waits_on : (a b : ℕ) → waits ≡ over a b → ⊥
waits_on a b h = cc

ends_otherwise : (faults : ScriptFault → Bool) (p q : Progress) (f : ScriptFault) (o : Ran Flow) → FailsLater faults p o
    → p.steps ≡ q.steps → f ≢ OutOfSteps → faults f ≡ false → shown_end o ≡ shown_end (stops (fault f) q) → ⊥
ends_otherwise faults p q f (goes flow r) later same not_steps other h =
    let e = (same_over r.steps 0 q.steps (fault_number f) h).1 in
    let some = some_number f in
    absurd (omega (arith, e, some))
ends_otherwise faults p q f (stops (wants op) r) later same not_steps other h = waits_on q.steps (fault_number f) h
ends_otherwise faults p q f (stops (fault g) r) later same not_steps other h =
    let e = same_over r.steps (fault_number g) q.steps (fault_number f) h in
    let steps = e.0 in
    let is = fault_is g f e.1 in
    ⊎_elim (λ none. not_steps (sym is ∙ none)) (λ rest.
    ⊎_elim (λ more. absurd (omega (arith, more, steps, same))) (λ one. absurd (true≢false (sym one ∙ ap faults is ∙ other))) rest) later
ends_otherwise faults p q f (stops answer_fault r) later same not_steps other h =
    let steps = (same_over r.steps (fault_number TooLarge) q.steps (fault_number f) h).0 in
    absurd (omega (arith, later, steps, same))

-- ---- decisions

-- what stands behind as many marks
behind : (xs ys : List (Option Bool)) (a b : Option Bool) (more others : List (Option Bool)) → length xs ≡ length ys
    → xs ++ a ∷ more ≡ ys ++ b ∷ others → a ≡ b
behind [] [] a b more others len h = cc
behind [] (y ∷ ys) a b more others len h = absurd (omega (arith, len))
behind (x ∷ xs) [] a b more others len h = absurd (omega (arith, len))
behind (x ∷ xs) (y ∷ ys) a b more others len h =
    let rest : xs ++ a ∷ more ≡ ys ++ b ∷ others = cc in
    behind xs ys a b more others (omega (arith, len)) rest

-- the marks of a run after a decision
marked : (p : Progress) (b : Bool) (r : Progress) (far : IsFurther (after_decision b p) r)
    → map shown_mark r.trail ≡ map shown_mark p.trail ++ Some b ∷ map shown_mark far.more
marked p b r far = ap (map shown_mark) far.trail' ∙ in_order p.trail b far.more
  where
    in_order : (ms : List Mark) (b : Bool) (more : List Mark)
        → map shown_mark ((ms ++ decided b ∷ []) ++ more) ≡ map shown_mark ms ++ Some b ∷ map shown_mark more
    in_order [] b more = refl
    in_order (m ∷ ms) b more = ap (λ rest. shown_mark m ∷ rest) (in_order ms b more)

same_truth : (a b : Bool) → Some a ≡ Some b → a ≡ b
same_truth a b h = cc

-- ---- operations

longer : (xs ys : List (Option Bool)) (a : Option Bool) (more : List (Option Bool)) → length xs ≡ length ys → xs ++ a ∷ more ≡ ys → ⊥
longer [] [] a more len h = cc
longer [] (y ∷ ys) a more len h = absurd (omega (arith, len))
longer (x ∷ xs) [] a more len h = absurd (omega (arith, len))
longer (x ∷ xs) (y ∷ ys) a more len h =
    let rest : xs ++ a ∷ more ≡ ys = cc in
    longer xs ys a more (omega (arith, len)) rest

as_many : (ms : List Mark) → length (map shown_mark ms) ≡ length ms
as_many [] = refl
as_many (m ∷ ms) = ap suc (as_many ms)

-- with the mark of an operation, and perhaps others, there are more marks
more_marks : (op : Op) (p q : Progress) (o : Ran Flow) (more : List Mark) → length p.trail ≡ length q.trail
    → (progress_in o).trail ≡ (p.trail ++ issued op ∷ []) ++ more → map shown_mark (progress_in o).trail ≡ map shown_mark q.trail → ⊥
more_marks op p q o more len is h =
    longer (map shown_mark p.trail) (map shown_mark q.trail) None (map shown_mark more) (as_many p.trail ∙ len ∙ sym (as_many q.trail))
    (sym (in_order p.trail) ∙ ap (map shown_mark) (sym is) ∙ h)
  where
    in_order : (ms : List Mark) → map shown_mark ((ms ++ issued op ∷ []) ++ more) ≡ map shown_mark ms ++ None ∷ map shown_mark more
    in_order [] = refl
    in_order (m ∷ ms) = ap (λ rest. shown_mark m ∷ rest) (in_order ms)

module _ (faults : ScriptFault → Bool) (op : Op) (onward : Datum → Run Flow) (p q : Progress) (f : ScriptFault)
    (steady : (d : Datum) → IsSteadyBut faults (onward d))
    (len : length p.trail ≡ length q.trail) (by_values : is_of_values f ≡ true) where
  abbrev taken : Progress → Datum → List Datum → Progress
  taken r d ds = record r { answers = ds; trail = r.trail ++ issued op ∷ [] }

  within : (b : Bool) (r : Progress) (d : Datum) (ds : List Datum) → r.trail ≡ p.trail
      → shown_of (after (if b then goes d (taken r d ds) else stops answer_fault (taken r d ds)) onward) ≡ shown_of (stops (fault f) q) → ⊥
  within true r d ds is h =
      let far = (steady d).further (taken r d ds) in
      more_marks op p q (onward d (taken r d ds)) far.more len (far.trail' ∙ ap (λ t. (t ++ issued op ∷ []) ++ far.more) is) (ap (λ (s : Shown). s.marks) h)
  within false r d ds is h =
      more_marks op p q (stops answer_fault (taken r d ds)) [] len
      (ap (λ t. t ++ issued op ∷ []) is ∙ sym (append-nil (p.trail ++ issued op ∷ []))) (ap (λ (s : Shown). s.marks) h)

  takes : (r : Progress) (ds : List Datum) → r.trail ≡ p.trail → shown_of (after (answered op ds r) onward) ≡ shown_of (stops (fault f) q) → ⊥
  takes r [] is h = waits_on q.steps (fault_number f) (ap (λ (s : Shown). s.end') h)
  takes r (d ∷ ds) is h = within (is_within_limits d) r d ds is h

  counts : (b : Bool) (r : Progress) → r.trail ≡ p.trail
      → shown_of (after (after (if b then stops (fault TooManyOperations) p else goes (tt {0}) r) (λ _. take_answer op)) onward)
      ≡ shown_of (stops (fault f) q) → ⊥
  counts true r is h =
      let e = (same_over p.steps (fault_number TooManyOperations) q.steps (fault_number f) (ap (λ (s : Shown). s.end') h)).1 in
      true≢false (sym by_values ∙ ap is_of_values (sym (fault_is TooManyOperations f e)))
  counts false r is h = takes r r.answers is h

  issues : shown_of ((issue op >>= onward) p) ≡ shown_of (stops (fault f) q) → ⊥
  issues h = counts (p.operations == MOST_OPERATIONS) (record p { operations = p.operations + 1; costs = last_issuing p.costs }) refl h

pub parting_shows : PartingShows
parting_shows = record {
  fails_alone = λ faults run p q f steady same not_steps other h.
      ends_otherwise faults p q f (run p) (steady.later p) same not_steps other (ap (λ (s : Shown). s.end') h);
  issues_alone = issues;
  fails_otherwise = λ p q f g unlike h.
      unlike (fault_is f g (same_over p.steps (fault_number f) q.steps (fault_number g) (ap (λ (s : Shown). s.end') h)).1);
  decides_otherwise = λ faults run other p q a b steady too len unlike h.
      let one = steady.further (after_decision a p) in
      let two = too.further (after_decision b q) in
      let marks = sym (marked p a (progress_in (run (after_decision a p))) one) ∙ ap (λ (s : Shown). s.marks) h
      ∙ marked q b (progress_in (other (after_decision b q))) two in
      unlike (same_truth a b (behind (map shown_mark p.trail) (map shown_mark q.trail) (Some a) (Some b) (map shown_mark one.more)
      (map shown_mark two.more) (as_many p.trail ∙ len ∙ sym (as_many q.trail)) marks));
}
