-- A run that keeps its costs keeps as many as it spends steps, and one of an operation for each answer that it takes.
use Rattle.std.proofs.Common.{◌≡◌, ◌∙◌, ℕ, suc, ◌+◌, Bool, true, false, cond, List, [], ◌∷◌, ◌++◌, length, Option, Some, refl, sym, ap, arith}
use Rattle.std.specs.Prelude.{◌==◌, nat_lt}
use Rattle.script_tree.specs.Datum.{Datum, is_within_limits}
use Rattle.script_tree.specs.Declarations.{NumberedPage}
use Rattle.script_tree.specs.Programs.{Program}
use Rattle.script_tree.specs.Requests.{Request}
use Rattle.script_tree.specs.SyntaxLists.{statements_of}
use Rattle.script_tree.specs.declared.fault.ScriptFault.TheVariants.{OutOfSteps, TooLarge, TooManyOperations}
use Rattle.script_tree.specs.declared.limits.TheConstants.{MOST_STEPS, MOST_OPERATIONS, MOST_BODY_BYTES}
use Rattle.script_tree.specs.declared.operation.Op.{Op}
use Rattle.script_tree.specs.declared.path.Path.{Path}
use Rattle.script_tree.specs.declared.request.Response.{Response}
use Rattle.script_meaning.specs.Conduct.{Ending, Wants, Ends, Undefined, ended, start, unless_left}
use Rattle.script_meaning.specs.Costs.{keeping, kept_in, costs_in, page_run}
use Rattle.script_meaning.specs.Evaluate.{Flow}
use Rattle.script_meaning.specs.Run.{Cost, taking, taking_request, issuing, Run, Progress, Ran, goes, stops, ◌>>=◌, after, answered, and_cost, last_issuing}
use Rattle.script_meaning.specs.declared.run.Mark.TheVariants.{Issued as issued}
use Rattle.script_meaning.specs.declared.run.Stop.TheVariants.{Wants as wants, Fault as fault, AnswerFault as answer_fault}
use Rattle.group_laws.specs.Sharing.{for_operations}
use Rattle.group_laws.proofs.Walk.{run_holds}

-- As many costs are kept as steps were spent, and those of operations are n with the answers that are left.
abbrev IsCountedWith : ℕ → List Datum → Progress → Type 0
IsCountedWith n xs p = (cs : List Cost) × (p.costs ≡ Some cs) × (length cs ≡ p.steps) × (for_operations 1 cs + length xs ≡ n)

abbrev IsCounted : ℕ → Progress → Type 0
IsCounted n p = IsCountedWith n p.answers p

-- of a run that wants an operation nothing is said
abbrev EndsCounted : {A : Type 0} → ℕ → Ran A → Type 0
EndsCounted n (goes a p) = IsCounted n p
EndsCounted n (stops (wants op) p) = Unit {0}
EndsCounted n (stops (fault f) p) = IsCounted n p
EndsCounted n (stops answer_fault p) = IsCounted n p

module _ (n : ℕ) where
  abbrev StaysCounted : (A : Type 0) → Run A → Type 0
  StaysCounted A m = (p : Progress) → IsCounted n p → EndsCounted n (m p)

  binds : (A B : Type 0) (m : Run A) (f : A → Run B) → StaysCounted A m → ((a : A) → StaysCounted B (f a)) → StaysCounted B (m >>= f)
  binds A B m f g h p counted = by (m p) (g p counted)
    where
      by : (r : Ran A) → EndsCounted n r → EndsCounted n (after r f)
      by (goes a q) e = h a q e
      by (stops (wants op) q) e = tt
      by (stops (fault x) q) e = e
      by (stops answer_fault q) e = e

  -- ---- steps

  abbrev charged : Cost → Progress → Progress
  charged c p = record p { steps = p.steps + 1; costs = and_cost c p.costs }

  abbrev charge_ran : Cost → Progress → Bool → Ran (Unit {0})
  charge_ran c p b = cond b (stops (fault OutOfSteps) p) (goes tt (charged c p))

  charge_counted : (c : Cost) (p : Progress) (b : Bool)
      → ((cs : List Cost) (k : ℕ) → for_operations 1 (c ∷ cs) + k ≡ for_operations 1 cs + k) → IsCounted n p
      → EndsCounted n (charge_ran c p b)
  charge_counted c p true same h = h
  charge_counted c p false same h = (c ∷ h.0, ap (and_cost c) h.1, omega (arith, h.2), same h.0 (length p.answers) ∙ h.3)

  -- ---- operations

  abbrev taken : Op → Progress → Datum → List Datum → Bool → Ran Datum
  taken op p x xs b = let q : Progress = record p { answers = xs; trail = p.trail ++ issued op ∷ [] } in cond b (goes x q) (stops answer_fault q)

  taken_counted : (op : Op) (p : Progress) (x : Datum) (xs : List Datum) (b : Bool) → IsCountedWith n xs p → EndsCounted n (taken op p x xs b)
  taken_counted op p x xs true h = h
  taken_counted op p x xs false h = h

  answer_counted : (op : Op) (xs : List Datum) (p : Progress) → IsCountedWith (suc n) xs p → EndsCounted n (answered op xs p)
  answer_counted op [] p h = tt
  answer_counted op (x ∷ xs) p h = taken_counted op p x xs (is_within_limits x) (h.0, h.1, h.2, omega (arith, h.3))

  abbrev count_ran : Progress → Bool → Ran (Unit {0})
  count_ran p b = cond b (stops (fault TooManyOperations) p) (goes tt (record p { operations = p.operations + 1; costs = last_issuing p.costs }))

  count_counted : (ds : List Datum) (op : Op) (p : Progress) (b : Bool) → IsCounted n p
      → EndsCounted n (after (count_ran (charged (taking ds) p) b) (λ _ q. answered op q.answers q))
  count_counted ds op p true h = (taking ds ∷ h.0, ap (and_cost (taking ds)) h.1, omega (arith, h.2), h.3)
  count_counted ds op p false h =
      answer_counted op p.answers (record p { steps = p.steps + 1; operations = p.operations + 1; costs = last_issuing (and_cost (taking ds) p.costs) })
      (issuing ∷ h.0, ap (λ o. last_issuing (and_cost (taking ds) o)) h.1, omega (arith, h.2), omega (arith, h.3))

  operation_counted : (ds : List Datum) (op : Op) (p : Progress) (b : Bool) → IsCounted n p
      → EndsCounted n (after (charge_ran (taking ds) p b) (λ _ q. after (count_ran q (q.operations == MOST_OPERATIONS)) (λ _ s. answered op s.answers s)))
  operation_counted ds op p true h = h
  operation_counted ds op p false h = count_counted ds op p (p.operations == MOST_OPERATIONS) h

  -- ---- the response

  abbrev print_ran : List ℕ → Progress → Bool → Ran (Unit {0})
  print_ran bytes p b = cond b (stops (fault TooLarge) p) (goes tt (record p { body = p.body ++ bytes }))

  print_counted : (bytes : List ℕ) (p : Progress) (b : Bool) → IsCounted n p → EndsCounted n (print_ran bytes p b)
  print_counted bytes p true h = h
  print_counted bytes p false h = h

page_counted : (program : Program) (request : Request) (answers : List Datum) (page : NumberedPage)
    → EndsCounted (length answers) (page_run program request (keeping (Some []) (start answers)) page)
page_counted program request answers page =
    let n = length answers in
    run_holds (StaysCounted n) (binds n) (λ A a p h. h) (λ A f p h. h) (λ ds p h. charge_counted n (taking ds) p (p.steps == MOST_STEPS) (λ cs k. refl) h)
    (λ q ds p h. charge_counted n (taking_request q ds) p (p.steps == MOST_STEPS) (λ cs k. refl) h)
    (λ ds op p h. operation_counted n ds op p (p.steps == MOST_STEPS) h) (λ m p h. h)
    (λ bytes p h. print_counted n bytes p (nat_lt MOST_BODY_BYTES (length (p.body ++ bytes))) h) (λ k p h. h)
    (record { program = program; request = request }) (MOST_STEPS + 1) 0 (statements_of page.body) []
    (keeping (Some []) (start answers)) ([], refl, refl, omega arith)

-- ---- endings

-- A run that ends has as many costs as steps, and n of operations.
abbrev pub HasSpent : ℕ → List Cost → Ending → Type 0
HasSpent n cs (Ends response path) = (length cs ≡ path.steps) × (for_operations 1 cs ≡ n)
HasSpent n cs (Wants op) = Unit {0}
HasSpent n cs Undefined = Unit {0}

over_spends : (n : ℕ) (o : Option (List Cost)) (xs : List Datum) (x : Response) (path : Path)
    → (cs : List Cost) × (o ≡ Some cs) × (length cs ≡ path.steps) × (for_operations 1 cs + length xs ≡ n)
    → HasSpent n (kept_in o) (unless_left xs (Ends x path))
over_spends n o [] x path h =
    let kept = ap kept_in h.1 in
    (ap length kept ∙ h.2, ap (for_operations 1) kept ∙ omega (arith, h.3))
over_spends n o (d ∷ ds) x path h = tt

ended_spends : (n k : ℕ) (r : Ran Flow) → EndsCounted n r → HasSpent n (costs_in r) (ended k r).ending
ended_spends n k (goes flow p) h = over_spends n p.costs p.answers _ _ h
ended_spends n k (stops (wants op) p) h = tt
ended_spends n k (stops (fault f) p) h = over_spends n p.costs p.answers _ _ h
ended_spends n k (stops answer_fault p) h = over_spends n p.costs p.answers _ _ h

pub no_page_spends : (xs : List Datum) (x : Response) (path : Path) → path.steps ≡ 0 → HasSpent (length xs) [] (unless_left xs (Ends x path))
no_page_spends [] x path h = (sym h, refl)
no_page_spends (d ∷ ds) x path h = tt

pub page_spends : (program : Program) (request : Request) (answers : List Datum) (page : NumberedPage)
    → let kept = page_run program request (keeping (Some []) (start answers)) page in HasSpent (length answers) (costs_in kept) (ended page.number kept).ending
page_spends program request answers page = ended_spends _ page.number _ (page_counted program request answers page)
