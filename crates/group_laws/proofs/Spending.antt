-- How many nodes a report evaluates, by the steps that its requests spend.
use Rattle.std.proofs.Common.{◌≡◌, ◌∙◌, ◌≤◌, ℕ, zero, suc, ◌+◌, true, List, [], ◌∷◌, ◌++◌, length, take, map, flat_map, Option, Some, None, refl, sym, ap, subst, arith, true≢false, length-append}
use Rattle.std.proofs.lemmas.Bool.{not-false}
use Rattle.basis.specs.Lists.{nth}
use Rattle.script_tree.specs.Datum.{Datum}
use Rattle.script_tree.specs.Declarations.{NumberedPage, page_in}
use Rattle.script_tree.specs.Objects.{Objects}
use Rattle.script_tree.specs.Programs.{Program}
use Rattle.script_tree.specs.Requests.{Request}
use Rattle.period.specs.Traces.{request_of, response_of}
use Rattle.script_tree.specs.declared.request.Response.{Response}
use Rattle.period.specs.declared.schedule.Moment.{Moment}
use Rattle.period.specs.declared.trace.TraceEvent.{TraceEvent}
use Rattle.period.specs.declared.report.Report.{Report}
use Rattle.script_meaning.specs.Conduct.{Ending, Ends, Wants, Undefined, on_page}
use Rattle.script_meaning.specs.Costs.{costs_of, costs_on}
use Rattle.script_meaning.specs.Replay.{ending_of}
use Rattle.script_meaning.specs.Run.{Cost}
use Rattle.group_laws.specs.Keeping.{KeepingChangesNothing}
use Rattle.audit_meaning.specs.GroupFaults.{grouping_fault, members}
use Rattle.audit_meaning.specs.Groups.{gives, steps_to, done_by, done, end_by, end_of, costs, costs_by, cost_of_group, cost_of_all, steps_of_all, if_unlike, if_fewer, mark_fault, longest, marks, group_fault, unsound_group}
use Rattle.audit_meaning.specs.Lists.{befores, numbers}
use Rattle.audit_meaning.specs.Members.{told, performed}
use Rattle.audit_meaning.specs.declared.node.Node.{Node}
use Rattle.audit_meaning.specs.declared.verdict.Verdict.{Verdict}
use Rattle.audit_meaning.specs.declared.verdict.Verdict.TheVariants.{Accepted, Rejected}
use Rattle.audit_meaning.specs.Verdicts.{judged, verdict, evaluated_nodes, plain_steps}
use Rattle.audit_meaning.specs.declared.reason.Reason.{Reason}
use Rattle.basis.specs.Lists.{first_answer}
use Rattle.audit_meaning.proofs.Places.{first_none, or_none, answer_none, befores_at}
use Rattle.group_laws.specs.Evaluations.{EvaluatedIsAtMostPlain, OneMemberCostsItsSteps}
use Rattle.group_laws.proofs.Counts.{HasSpent, no_page_spends, page_spends}
use Rattle.group_laws.proofs.Sums.{group_at_most, one_costs, total}

-- ---- a request

on_page_spends : KeepingChangesNothing → (program : Program) (request : Request) (answers : List Datum) (page : Option NumberedPage)
    → HasSpent (length answers) (costs_on program request answers page) (on_page program request answers page).ending
on_page_spends law program request answers None = no_page_spends answers _ _ refl
on_page_spends law program request answers (Some page) =
    subst (λ c. HasSpent (length answers) (costs_on program request answers (Some page)) c.ending)
    (law.same program request answers page (Some [])) (page_spends program request answers page)

steps_spent : (n : ℕ) (cs : List Cost) (e : Ending) (y : Option Response) → gives e y ≡ true → HasSpent n cs e → length cs ≡ steps_to e
steps_spent n cs (Ends response path) y h spent = spent.0
steps_spent n cs (Wants op) y h spent = absurd (true≢false (sym h))
steps_spent n cs Undefined y h spent = absurd (true≢false (sym h))

length_told : (R : Report) (O : Objects) (r k : ℕ) → length (told R O r k) ≡ k
length_told R O r zero = refl
length_told R O r (suc k) = length-append (told R O r k) _ ∙ ap (λ n. n + 1) (length_told R O r k) ∙ omega arith

module _ (law : KeepingChangesNothing) (P : Program) (O : Objects) (T : List TraceEvent) (R : Report) where
  request_spends : (r : ℕ) (o : Option Request) → HasSpent (done_by P O T R r o) (costs_by P O T R r o) (end_by P O T R r o)
  unfolding ending_of
  request_spends r None = tt
  request_spends r (Some q) =
      let n = performed P O R r q in
      let answers = told R O r n in
      subst (λ k. HasSpent k (costs_of P q answers) (ending_of P q answers)) (length_told R O r n) (on_page_spends law P q answers (page_in P q.path))

  -- a member whose run ends has as many costs as steps, and one of an operation for each of its operations
  pub member_spends : (r : ℕ) → HasSpent (done P O T R r) (costs P O T R r) (end_of P O T R r)
  unfolding costs
  member_spends r = request_spends r (request_of T r)

  spends : (r : ℕ) → if_unlike P O T R r ≡ None → length (costs P O T R r) ≡ steps_to (end_of P O T R r)
  spends r h = steps_spent _ _ (end_of P O T R r) (response_of T r) (not-false _ (answer_none _ _ h)) (member_spends r)

  -- ---- a group

  all_spend : (rs : List ℕ) → ((i r : ℕ) → nth rs i ≡ Some r → if_unlike P O T R r ≡ None) → total (map (costs P O T R) rs) ≡ steps_of_all P O T R rs
  all_spend [] h = refl
  all_spend (r ∷ rs) h =
      let first = spends r (h 0 r refl) in
      let others = all_spend rs (λ i x at. h (suc i) x at) in
      omega (arith, first, others)

  none_unlike : (n : ℕ) (g : List ℕ) → group_fault P O T R n g ≡ None → (i r : ℕ) → nth g i ≡ Some r → if_unlike P O T R r ≡ None
  unfolding group_fault
  none_unlike n g h i r at =
      let later = or_none (first_answer (mark_fault P O T R n g) (numbers 0 (longest (map (marks P O T R) g)))) _ h in
      let parts = or_none (first_answer (if_fewer P O T R) g) (first_answer (if_unlike P O T R) g) later.1 in
      first_none (if_unlike P O T R) g i r parts.1 at

  group_spends : (n : ℕ) (g : List ℕ) → group_fault P O T R n g ≡ None → cost_of_group P O T R g ≤ steps_of_all P O T R g
  group_spends n g h =
      let cost = group_at_most (map (costs P O T R) g) in
      let all = all_spend g (none_unlike n g h) in
      omega (arith, cost, all)

  pub one_spends : (n r : ℕ) → group_fault P O T R n (r ∷ []) ≡ None → cost_of_group P O T R (r ∷ []) ≡ steps_of_all P O T R (r ∷ [])
  one_spends n r h =
      let cost = one_costs (costs P O T R r) in
      let steps = spends r (none_unlike n (r ∷ []) h 0 r refl) in
      omega (arith, cost, steps)

  -- ---- all groups

  steps_both : (xs ys : List ℕ) → steps_of_all P O T R (xs ++ ys) ≡ steps_of_all P O T R xs + steps_of_all P O T R ys
  steps_both [] ys = omega arith
  steps_both (x ∷ xs) ys = let h = steps_both xs ys in omega (arith, h)

  groups_spend : (gs : List (List ℕ)) → ((i : ℕ) (g : List ℕ) → nth gs i ≡ Some g
      → (n : ℕ) × (group_fault P O T R n g ≡ None))
      → cost_of_all P O T R gs ≤ steps_of_all P O T R (flat_map (λ (g : List ℕ). g) gs)
  groups_spend [] h = omega arith
  groups_spend (g ∷ gs) h =
      let sound = h 0 g refl in
      let first = group_spends sound.0 g sound.1 in
      let others = groups_spend gs (λ i x at. h (suc i) x at) in
      let both = steps_both g (flat_map (λ (x : List ℕ). x) gs) in
      omega (arith, first, others, both)

  nodes_spent : unsound_group P O T R ≡ None → evaluated_nodes P O T R ≤ plain_steps P O T R
  unfolding unsound_group evaluated_nodes plain_steps members
  nodes_spent sound =
      groups_spend R.groups (λ i g at. (
        length (take i R.groups),
        first_none (λ b. group_fault P O T R (length b.0) b.1) (befores R.groups) i (take i R.groups, g) sound (befores_at R.groups i g at),
      ))

-- ---- the verdict

abbrev evaluated_in : Verdict → ℕ
evaluated_in (Accepted S v n) = v
evaluated_in (Rejected r) = 0

abbrev steps_of : Verdict → ℕ
steps_of (Accepted S v n) = n
steps_of (Rejected r) = 0

abbrev IsAccepted : Verdict → Type 0
IsAccepted (Accepted S v n) = Unit {0}
IsAccepted (Rejected r) = ⊥

-- what is accepted has no fault in its groups
accepted_parts : (a : Option Reason) (C : List Node) (n : Option (List Node)) (l : Option Reason) (R : Report)
    (evaluated steps : ℕ) (S : List Moment) (v k : ℕ) → judged a C n l R evaluated steps ≡ Accepted S v k
    → (l ≡ None) × (evaluated ≡ v) × (steps ≡ k)
accepted_parts (Some r) C n l R evaluated steps S v k e = absurd (subst IsAccepted (sym e) tt)
accepted_parts None C None l R evaluated steps S v k e = absurd (subst IsAccepted (sym e) tt)
accepted_parts None C (Some N) (Some r) R evaluated steps S v k e = absurd (subst IsAccepted (sym e) tt)
accepted_parts None C (Some N) None R evaluated steps S v k e = (refl, ap evaluated_in e, ap steps_of e)

pub at_most : KeepingChangesNothing → EvaluatedIsAtMostPlain
unfolding verdict
at_most law P O T R S v k h =
    let parts = accepted_parts _ _ _ _ R _ _ S v k h in
    let sound = (or_none (grouping_fault T R) (unsound_group P O T R) parts.0).1 in
    let nodes = nodes_spent law P O T R sound in
    omega (arith, nodes, parts.1, parts.2)

pub one_member : KeepingChangesNothing → OneMemberCostsItsSteps
one_member law P O T R n r h = one_spends law P O T R n r h
